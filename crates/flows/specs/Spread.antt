-- Steps towards all that follows, over tables that stay.
use Rattle.std.specs.Prelude.{◌≡◌, ℕ, Bool, false, T}
use Rattle.sets.specs.Least
use Rattle.model.specs.declared.fact.Fact.{Fact}
use Rattle.model.specs.Flows.{Derived}
use Rattle.block.specs.declared.tables.Tables.{Tables}
use Rattle.block.specs.declared.relations.Relations.{Relations}
use Rattle.block.specs.Reading.{standing, cards_of, session_of}

abbrev pub Has : Tables → Relations → Fact → Type 0
Has t r f = T (standing t r f)

abbrev pub Lacks : Tables → Relations → Fact → Type 0
Lacks t r f = standing t r f ≡ false

abbrev pub program_of : Tables → ℕ → ℕ
program_of t s = (session_of t s).program

abbrev pub Follows : Tables → (Fact → Type 0) → Fact → Type 0
Follows t = Derived (cards_of t) (program_of t)

-- what is said of the facts that stand
abbrev pub Law : Type 1
Law = (Fact → Type 0) → Type 0

-- facts are added
abbrev pub Joined : Tables → Relations → Relations → Bool → (Fact → Type 0) → Type 0
Joined t = Least.Joined (Has t) (Lacks t)

-- facts that follow are added, and if none is new then the law holds of those that stand
abbrev pub Spread : Tables → Relations → Relations → Bool → Law → Type 0
Spread t old new grew law = Least.Spread (Has t) (Lacks t) (Follows t) old new grew (λ r. law (Has t r))
