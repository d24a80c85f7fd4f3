-- The pairs of a row and a number that it has, and where chains of them lead.
use Rattle.std.specs.Prelude.{◌≡◌, ℕ, ◌*◌, ◌<◌, Bool, true, false}
use Rattle.sets.specs.Least
use Rattle.sets.specs.Member.{relates}
use Rattle.sets.specs.declared.relation.Relation.{Relation}

abbrev pub Has : {N W : ℕ} → Relation N W → ℕ × ℕ → Type 0
Has {N = N} {W = W} r p = (p.0 < N) × (p.1 < 64 * W) × (relates r p.0 p.1 ≡ true)

abbrev pub Lacks : {N W : ℕ} → Relation N W → ℕ × ℕ → Type 0
Lacks r p = relates r p.0 p.1 ≡ false

-- the pairs that chains of given ones make
pub data Chained (Given : ℕ × ℕ → Type 0) : ℕ × ℕ → Type 0 where
  given : {p : ℕ × ℕ} → Given p → Chained Given p
  on : {a b c : ℕ} → Chained Given (a, b) → Chained Given (b, c) → Chained Given (a, c)

-- pairs that chains make are added, and if none is new then the law holds of the relation
abbrev pub Extends : {N W : ℕ} → Relation N W → Relation N W → Bool → (Relation N W → Type 0) → Type 0
Extends = Least.Spread Has Lacks Chained

-- a row that has b has all that row b has
abbrev pub LeadsOn : {N W : ℕ} → ℕ → ℕ → Relation N W → Type 0
LeadsOn a b r = (c : ℕ) → Has r (a, b) → Has r (b, c) → Has r (a, c)

-- every row does so at b
abbrev pub Through : {N W : ℕ} → ℕ → Relation N W → Type 0
Through {N = N} b r = (a : ℕ) → a < N → LeadsOn a b r
