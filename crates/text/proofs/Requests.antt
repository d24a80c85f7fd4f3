-- The numbers behind a key, read. Assumes nothing.
use Rattle.std.proofs.Common.{◌≡◌, ℕ, ◌^◌, ◌<◌, List, ◌++◌, length, get_or, sym, ◌∙◌, subst, arith}
use Rattle.std.proofs.ByRecursion.{All-get_or, All-from_get_or}
use Rattle.std.proofs.lemmas.List.{same_lists, get_or_default}
use Rattle.std.proofs.lemmas.List.Prefix.{front_rest}
use Rattle.text.specs.Lines.{commas}
use Rattle.text.specs.Post.{Holds, Row}
use Rattle.text.specs.Requests.{Narrow, Keyed}
use Rattle.text.proofs.Unique.{commas_same}

-- the bytes are no such line
abbrev pub NotKeyed : List ℕ → ℕ → List ℕ → Type 0
NotKeyed key n line = (ns : List ℕ) → Keyed key n line ns → ⊥

-- numbers that are held as narrow ones are those
held_narrow : (vs ns : List ℕ) → length vs ≡ length ns → Holds vs ns → Narrow vs → ns ≡ vs
held_narrow vs ns long h small = same_lists ns vs (sym long) at
  where
    at : (k d : ℕ) → k < length ns → get_or ns k d ≡ get_or vs k d
    at k d l =
        let v : get_or vs k 0 < 2 ^ 32 = All-get_or (λ n. n < 2 ^ 32) vs k 0 (omega arith) small in
        let is : get_or ns k 0 ≡ get_or vs k 0 = omega (arith, h k) in
        get_or_default ns k d 0 l ∙ is ∙ get_or_default vs k 0 d (omega arith)

narrow_held : (vs ns : List ℕ) → length vs ≡ length ns → Holds vs ns → Narrow ns → Narrow vs
narrow_held vs ns long h small = All-from_get_or (λ n. n < 2 ^ 32) vs 0 (λ k l. omega (arith, h k, All-get_or (λ n. n < 2 ^ 32) ns k 0 (omega arith) small))

pub no_front : {key line : List ℕ} {n : ℕ} → ((rest : List ℕ) → line ≡ key ++ rest → ⊥) → NotKeyed key n line
no_front h ns e = h (commas ns) e.text

module _ {key line left : List ℕ} {n : ℕ} (cut : line ≡ key ++ left) where
  behind : (ns : List ℕ) → Keyed key n line ns → left ≡ commas ns
  behind ns e = sym (front_rest line key left cut) ∙ front_rest line key (commas ns) e.text

  pub beyond : {vs : List ℕ} → Row left n n vs → (Narrow vs → ⊥) → NotKeyed key n line
  beyond {vs} row h ns e =
      let same = commas_same row.values ns (row.long ∙ sym e.long) (sym row.text ∙ behind ns e) in
      h (narrow_held vs ns (row.places ∙ sym e.long) (subst (Holds vs) same row.held) e.narrow)

  pub keyed : {vs : List ℕ} → Row left n n vs → Narrow vs → Keyed key n line vs
  keyed {vs} row small =
      let same = held_narrow vs row.values (row.places ∙ sym row.long) row.held small in
      record {
        text = cut ∙ (λ i. key ++ (row.text ∙ (λ j. commas (same j))) i);
        long = row.places;
        narrow = small;
      }

-- a line has one list of numbers behind a key
pub one_keyed : {key line ns ms : List ℕ} {n : ℕ} → Keyed key n line ns → Keyed key n line ms → ns ≡ ms
one_keyed {key} {line} {ns} {ms} e f = commas_same ns ms (e.long ∙ sym f.long) (behind e.text ms f)
