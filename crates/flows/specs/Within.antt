-- What lies within given containers, through those that pass.
use Rattle.std.specs.Prelude.{◌≡◌, ℕ, ◌<◌, Bool, true, false}
use Rattle.sets.specs.Least
use Rattle.sets.specs.Member.{in_set}
use Rattle.sets.specs.declared.set.Set.{Set}
use Rattle.model.specs.declared.fact.Fact.TheVariants.{Holding}
use Rattle.model.specs.Records.{State, Stands}

-- holdings lead from a start to y, and each container before y passes
pub data Within (S : State) (Passing Start : ℕ → Type 0) : ℕ → Type 0 where
  start : {y : ℕ} → Start y → Within S Passing Start y
  inside : {c y : ℕ} → Within S Passing Start c → Passing c → Stands S (Holding c y) → Within S Passing Start y

abbrev pub In : Set 4 → ℕ → Type 0
In s y = (y < 256) × (in_set s y ≡ true)

abbrev pub Out : Set 4 → ℕ → Type 0
Out s y = in_set s y ≡ false

-- a step of the search
abbrev pub Opening : State → Set 4 → Set 4 → Set 4 → Bool → (Set 4 → Type 0) → Type 0
Opening S passing = Least.Spread In Out (Within S (In passing))

-- all that c holds is seen, if c is seen and passes
abbrev pub Opened : State → Set 4 → ℕ → Set 4 → Type 0
Opened S passing c seen = (y : ℕ) → In seen c → In passing c → Stands S (Holding c y) → In seen y
