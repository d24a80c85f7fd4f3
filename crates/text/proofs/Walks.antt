-- A walk over the lines of a text, step by step. Assumes nothing.
use Rattle.std.proofs.Common.{◌≡◌, ℕ, zero, suc, ◌+◌, ◌^◌, ◌<◌, true, List, [], ◌∷◌, ◌++◌, length, get_or, sym, refl, ap, ◌∙◌, subst, append_assoc, add-one, arith}
use Rattle.std.specs.List.{AllByRecursion}
use Rattle.text.specs.declared.reader.Reader.{Reader}
use Rattle.text.specs.declared.record.Key.{Key}
use Rattle.text.specs.declared.record.Key.TheVariants as key
use Rattle.text.specs.declared.record.Line.{Line}
use Rattle.text.specs.declared.record.Entry.{Entry}
use Rattle.text.specs.Lines.{key_of, numbers, text, Sound, in_range, NoLine}
use Rattle.text.specs.Post.{capped, Keeps, Reads, line_of, entry_in_range}
use Rattle.text.specs.Rest.{rest}
use Rattle.text.specs.Walks.{Walk}
use Rattle.text.proofs.Ranges.{small, range_held}
use Rattle.text.proofs.Unique.{line_back, line_same, text_first, first_line, line_some, sound_part}

-- an entry of a line in range holds its very numbers
exact : (vs ns : List ℕ) → AllByRecursion (λ n. n < 2 ^ 32) ns → ((j : ℕ) → get_or vs j 0 ≡ capped (get_or ns j 0)) → (j : ℕ) → (get_or vs j 0 ≡ get_or ns j 0) × (get_or vs j 0 < 2 ^ 32)
exact vs ns s h j = let b = below ns s j in (h j ∙ capped_same _ b, subst (λ k. k < 2 ^ 32) (sym (h j ∙ capped_same _ b)) b)
  where
    capped_same : (n : ℕ) → n < 2 ^ 32 → capped n ≡ n
    capped_same n l = omega arith

    below : (ms : List ℕ) → AllByRecursion (λ n. n < 2 ^ 32) ms → (i : ℕ) → get_or ms i 0 < 2 ^ 32
    below [] a i = omega arith
    below (m ∷ ms) a zero = a.0
    below (m ∷ ms) a (suc i) = below ms a.1 i

line_at : (k : Key) (vs ns : List ℕ) → ((j : ℕ) → get_or vs j 0 ≡ get_or ns j 0) → line_of k vs ≡ line_of k ns
line_at key.Root vs ns h = cc (h 0, h 1)
line_at key.Gate vs ns h = cc (h 0)
line_at key.Account vs ns h = cc (h 0, h 1, h 2, h 3, h 4)
line_at key.Role vs ns h = cc (h 0, h 1, h 2, h 3, h 4)
line_at key.Container vs ns h = cc (h 0, h 1, h 2, h 3)
line_at key.Object vs ns h = cc (h 0, h 1, h 2)
line_at key.Session vs ns h = cc (h 0, h 1, h 2, h 3, h 4)
line_at key.Right vs ns h = cc (h 0, h 1, h 2)
line_at key.Held vs ns h = cc (h 0, h 1)
line_at key.Access vs ns h = cc (h 0, h 1, h 2)

module _ {e : Entry} {l : Line} (k : Keeps e l) (r : entry_in_range e ≡ true) where
  pub ranged : in_range l ≡ true
  ranged = sym (range_held e l k) ∙ r

  held : (j : ℕ) → (get_or e.numbers j 0 ≡ get_or (numbers l) j 0) × (get_or e.numbers j 0 < 2 ^ 32)
  held = exact e.numbers (numbers l) (small l ranged) k.held

  pub fits : (j : ℕ) → get_or e.numbers j 0 < 2 ^ 32
  fits j = (held j).1

  pub line_kept : line_of e.key e.numbers ≡ l
  line_kept = ap (λ t. line_of t e.numbers) k.key ∙ line_at (key_of l) e.numbers (numbers l) (λ j. (held j).0) ∙ line_back l

module _ {ls done : List Line} {r : Reader} (w : Walk ls r done) where
  pub ended : NoLine (rest r) → done ≡ ls
  ended none = sym (w.lines ∙ ap (λ k. k ++ done) (empty w.later w.left))
    where
      empty : (later : List Line) → rest r ≡ text later → later ≡ []
      empty [] e = refl
      empty (l ∷ later) e =
          let f = first_line (l ∷ later) (omega arith) in
          absurd (none f.1 (text f.0) (e ∙ ap text f.2 ∙ text_first f.0 f.1))

  module _ {s : Reader} {e : Entry} (got : Reads (rest r) e (rest s)) (count : s.lines ≡ r.lines + 1) where
    pub on : Walk ls s (got.line ∷ done)
    on =
        let some : 0 < length w.later = later_some w.later w.left in
        let f = first_line w.later some in
        let cut = line_same got.line f.1 (rest s) (text f.0) (sym got.text ∙ w.left ∙ ap text f.2 ∙ text_first f.0 f.1) in
        record {
          sound = w.sound;
          later = f.0;
          lines = w.lines ∙ ap (λ k. k ++ done) f.2 ∙ append_assoc f.0 (f.1 ∷ []) done ∙ ap (λ k. f.0 ++ k ∷ done) (sym cut.0);
          left = cut.1;
          count = count ∙ ap (λ k. k + 1) w.count ∙ add-one (length done);
        }
      where
        later_some : (later : List Line) → rest r ≡ text later → 0 < length later
        later_some [] h = absurd (omega (arith, ap length (sym got.text ∙ h), line_some got.line (rest s)))
        later_some (l ∷ later) h = omega arith

-- each line that is met is in range
pub met : {ls done : List Line} {r : Reader} {l : Line} → Walk ls r (l ∷ done) → in_range l ≡ true
met {ls} {done} {r} {l} w = (sound_part w.later l done (subst Sound w.lines w.sound)).1
