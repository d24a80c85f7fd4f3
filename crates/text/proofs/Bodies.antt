-- A line before its byte 10. Assumes nothing.
use Rattle.std.proofs.Common.{◌≡◌, ℕ, ◌<◌, ◌≤◌, List, [], ◌∷◌, ◌++◌, length, get_or, sym, refl, ap, ◌∙◌, append_assoc, arith, rules}
use Rattle.std.proofs.ByRecursion.{All-append}
use Rattle.text.specs.declared.record.Key.{Key}
use Rattle.text.specs.declared.record.Key.TheVariants as key
use Rattle.text.specs.declared.record.Line.{Line}
use Rattle.text.specs.declared.record.Entry.{Entry}
use Rattle.text.specs.Cut.{Lacks, CutAt}
use Rattle.text.specs.Lines.{key_text, key_of, numbers, commas, body, numeral, NoLine}
use Rattle.text.specs.Post.{arity, capped, Row, Says, Reads, line_of}
use Rattle.text.proofs.Cuts.{cut_same}
use Rattle.text.proofs.Lists.{is_listed}
use Rattle.text.proofs.Numerals.{numeral_lacks}

pub key_lacks : (k : Key) → Lacks 61 (key_text k) × Lacks 10 (key_text k)
key_lacks key.Root = search rules
key_lacks key.Gate = search rules
key_lacks key.Account = search rules
key_lacks key.Role = search rules
key_lacks key.Container = search rules
key_lacks key.Object = search rules
key_lacks key.Session = search rules
key_lacks key.Right = search rules
key_lacks key.Held = search rules
key_lacks key.Access = search rules

-- each text is that of one key
pub key_same : (k j : Key) → key_text k ≡ key_text j → k ≡ j
key_same k j e = grind arith

pub arity_some : (k : Key) → (0 < arity k) × (arity k ≤ 5)
arity_some k = grind arith

pub numbers_long : (l : Line) → length (numbers l) ≡ arity (key_of l)
numbers_long l = grind arith

line_is : (k : Key) (n : List ℕ) → length n ≡ arity k → (key_of (line_of k n) ≡ k) × (numbers (line_of k n) ≡ n)
line_is key.Root n h = (refl, sym (is_listed 2 n h))
line_is key.Gate n h = (refl, sym (is_listed 1 n h))
line_is key.Account n h = (refl, sym (is_listed 5 n h))
line_is key.Role n h = (refl, sym (is_listed 5 n h))
line_is key.Container n h = (refl, sym (is_listed 4 n h))
line_is key.Object n h = (refl, sym (is_listed 3 n h))
line_is key.Session n h = (refl, sym (is_listed 5 n h))
line_is key.Right n h = (refl, sym (is_listed 3 n h))
line_is key.Held n h = (refl, sym (is_listed 2 n h))
line_is key.Access n h = (refl, sym (is_listed 3 n h))

-- the bytes are no line
abbrev pub NoBody : List ℕ → Type 0
NoBody bytes = (l : Line) → bytes ≡ body l → ⊥

module _ {bytes name left : List ℕ} (cut : CutAt 61 bytes name left) where
  parts : (l : Line) → bytes ≡ body l → (name ≡ key_text (key_of l)) × (left ≡ commas (numbers l))
  parts l e = cut_same 61 name (key_text (key_of l)) left (commas (numbers l)) cut.first (key_lacks (key_of l)).0 (sym cut.whole ∙ e)

  pub no_key : ((k : Key) → name ≡ key_text k → ⊥) → NoBody bytes
  no_key h l e = h (key_of l) (parts l e).0

  pub says : {k : Key} {vs : List ℕ} → name ≡ key_text k → Row left (arity k) 5 vs → Says bytes (record { key = k; numbers = vs })
  says {k} {vs} is r =
      let l = line_is k r.values r.long in
      record {
        line = line_of k r.values;
        text = cut.whole ∙ (λ i. is i ++ 61 ∷ r.text i) ∙ (λ i. key_text (sym l.0 i) ++ 61 ∷ commas (sym l.1 i));
        kept = record { key = sym l.0; places = r.places; held = λ j. r.held j ∙ ap (λ t. capped (get_or t j 0)) (sym l.1) };
      }

commas_lacks : (ns : List ℕ) → Lacks 10 (commas ns)
commas_lacks [] = tt
commas_lacks (n ∷ []) = numeral_lacks 10 n (λ d. omega arith)
commas_lacks (n ∷ m ∷ ns) = All-append (λ x. x ≡ 10 → ⊥) (numeral n) (44 ∷ commas (m ∷ ns)) (numeral_lacks 10 n (λ d. omega arith)) ((λ e. omega arith), commas_lacks (m ∷ ns))

pub body_lacks : (l : Line) → Lacks 10 (body l)
body_lacks l = All-append (λ x. x ≡ 10 → ⊥) (key_text (key_of l)) (61 ∷ commas (numbers l)) (key_lacks (key_of l)).1 ((λ e. omega arith), commas_lacks (numbers l))

module _ {bytes line after : List ℕ} (cut : CutAt 10 bytes line after) where
  pub no_line : NoBody line → NoLine bytes
  no_line h l more e = h l (cut_same 10 line (body l) after more cut.first (body_lacks l) (sym cut.whole ∙ e ∙ append_assoc (body l) (10 ∷ []) more)).0

  pub reads : {e : Entry} → Says line e → Reads bytes e after
  reads s = record {
    line = s.line;
    text = cut.whole ∙ ap (λ t. t ++ 10 ∷ after) s.text ∙ sym (append_assoc (body s.line) (10 ∷ []) after);
    kept = s.kept;
  }
