-- The report: which session controls which other.
use Rattle.std.specs.Prelude.{◌≡◌, ℕ, zero, suc, ◌<◌, ◌≤◌, Bool, true, false, cond, not, ◌&&◌, ◌≢◌, ◌⊎◌, List, [], ◌∷◌, ◌++◌, length, Ok, Err, Result, ◌==◌}
use mathlib.Core.List.{Memᴰ as Listed}
use Rattle.model.specs.declared.fact.Fact.TheVariants.{Control}
use Rattle.model.specs.declared.answer.Refusal.{Refusal}
use Rattle.model.specs.declared.answer.Refusal.TheVariants.{Blank, BufferTooShort}
use Rattle.model.specs.Records.{State, Session, Stands}
use Rattle.block.specs.declared.block.Block.{Block}
use Rattle.block.specs.Lent.{started, block_state}
use Rattle.text.specs.Written.{control_line, written}

-- ## The pairs

-- session s controls t, which is another
abbrev pub controls : State → ℕ → ℕ → Bool
controls S s t = not (s == t) && S.stands (Control s t)

-- the lists of 1 to n, one behind the other
unfoldable pub up_to : ℕ → (ℕ → List (ℕ × ℕ)) → List (ℕ × ℕ)
up_to zero f = []
up_to (suc n) f = up_to n f ++ f (suc n)

-- the pair of s and t, or none
abbrev pub pair : State → ℕ → ℕ → List (ℕ × ℕ)
pair S s t = cond (controls S s t) ((s, t) ∷ []) []

-- the pairs of session s
abbrev pub row : State → ℕ → List (ℕ × ℕ)
row S s = up_to 63 (pair S s)

abbrev pub pairs : State → List (ℕ × ℕ)
pairs S = up_to 63 (row S)

-- ## Their lines

unfoldable pub lines : List (ℕ × ℕ) → List ℕ
lines [] = []
lines (p ∷ ps) = control_line p.0 p.1 ++ lines ps

abbrev pub report : State → List ℕ
report S = lines (pairs S)

-- ## The outcome

-- the answer to a report into the buffer, and what it leaves there
pub record Reports (b : Block) (buffer : List ℕ) (r : Result ℕ Refusal) (after : List ℕ) : Type 0 where
  pub blank : started b ≡ false → (r ≡ Err Blank) × (after ≡ buffer)
  pub short : started b ≡ true → length buffer < length (report (block_state b)) → (r ≡ Err BufferTooShort) × (after ≡ buffer)
  pub whole : started b ≡ true → length (report (block_state b)) ≤ length buffer → (r ≡ Ok (length (report (block_state b)))) × (after ≡ written buffer 0 (report (block_state b)))

-- ## What makes it the report

-- by the first session, then by the second
abbrev pub Before : ℕ × ℕ → ℕ × ℕ → Type 0
Before p q = (p.0 < q.0) ⊎ ((p.0 ≡ q.0) × (p.1 < q.1))

-- each pair is before all that follow
abbrev pub Ascends : List (ℕ × ℕ) → Type 0
Ascends [] = Unit {0}
Ascends (p ∷ ps) = ((q : ℕ × ℕ) → Listed q ps → Before p q) × Ascends ps

-- the report is to list s and t
abbrev pub Reported : State → ℕ → ℕ → Type 0
Reported S s t = Session s × Session t × (s ≢ t) × Stands S (Control s t)

-- every pair of a session and another that it controls is listed, no other pair is, and each stands once, in ascending order
pub record ListsAll (S : State) (ps : List (ℕ × ℕ)) : Type 0 where
  pub every : (s t : ℕ) → Reported S s t → Listed (s, t) ps
  pub only : (s t : ℕ) → Listed (s, t) ps → Reported S s t
  pub ascends : Ascends ps
