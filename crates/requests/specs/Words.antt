-- Tests on one role, account or container.
use Rattle.std.specs.Prelude.{ℕ, Bool, not, ◌&&◌, ◌==◌}
use Rattle.model.specs.Records.{State, account_of, role_of}
use Rattle.model.specs.Needs.{manages as role_manages}
use Rattle.model.specs.declared.fact.Fact.TheVariants.{Held, Holding}

-- session x holds role a, which is administrative and manages the role
abbrev pub manages : State → ℕ → ℕ → ℕ → Bool
manages S x role a = S.stands (Held x a) && role_manages (role_of S.cards a) role

-- a container other than z holds y
abbrev pub holds_too : State → ℕ → ℕ → ℕ → Bool
holds_too S z y c = not (c == z) && S.stands (Holding c y)

abbrev pub is_key_of_account : State → ℕ → ℕ → Bool
is_key_of_account S y a = (account_of S.cards a).key == y

abbrev pub is_key_of_role : State → ℕ → ℕ → Bool
is_key_of_role S y r = (role_of S.cards r).key == y
