-- The lines of an input, of which the last may lack its byte 10. Assumes nothing.
use Rattle.std.specs.Prelude.{◌≡◌, ℕ, ◌<◌, List, [], ◌∷◌, ◌++◌, length, slice_index}
use Rattle.text.specs.Cut.{Lacks, CutAt}

-- the first line of the bytes, and what is behind it; the last line may lack its byte 10
pub data FirstLine (bytes : List ℕ) : List ℕ → List ℕ → Type 0 where
  ended : {line rest : List ℕ} → CutAt 10 bytes line rest → FirstLine bytes line rest
  last : Lacks 10 bytes → FirstLine bytes bytes []

-- an empty line ends at place k: a byte 10, at the start or behind another byte 10
abbrev pub EmptyAt : List ℕ → ℕ → Type 0
EmptyAt bytes k = (slice_index (10 ∷ bytes) k ≡ 10) × (slice_index bytes k ≡ 10)

-- no empty line ends in the bytes before place n
abbrev pub NoneBefore : List ℕ → ℕ → Type 0
NoneBefore bytes n = (k : ℕ) → k < n → EmptyAt bytes k → ⊥

-- the bytes are front, then their first empty line, then back
pub record EmptyCut (bytes front back : List ℕ) : Type 0 where
  pub whole : bytes ≡ front ++ 10 ∷ back
  pub empty : EmptyAt bytes (length front)
  pub first : NoneBefore bytes (length front)
