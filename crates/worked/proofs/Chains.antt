-- Needs one after the other.
use Rattle.std.proofs.Common.{◌⊎◌, inr}

-- this one is met, and so are those after it
infixr 5 ◌&◌
abbrev pub ◌&◌ : {A B : Type 0} → A → B → A × B
a & b = (a, b)

-- this one is met, and one after it fails
infixr 5 ◌▸◌
abbrev pub ◌▸◌ : {A B C : Type 0} → B → C → A ⊎ (B × C)
b ▸ c = inr (b, c)
