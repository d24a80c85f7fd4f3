-- What a level order means: its top code, the codes it knows, and whether one code is at or below another.
use Rattle.std.specs.Prelude.{◌≡◌, ℕ, Bool, ◌&&◌, T, ◌==◌, bit_and, nat_le}

pub record Order : Type 0 where
  pub top : ℕ
  pub known : ℕ → Bool
  pub below : ℕ → ℕ → Bool

-- What every order shows: a partial order on the codes it knows, with a known top above them all.
pub record Lawful (o : Order) : Type 0 where
  pub reflexive : (a : ℕ) → T (o.known a) → T (o.below a a)
  pub transitive : (a b c : ℕ) → T (o.below a b) → T (o.below b c) → T (o.below a c)
  pub antisymmetric : (a b : ℕ) → T (o.below a b) → T (o.below b a) → a ≡ b
  -- unknown codes are related to none
  pub related : (a b : ℕ) → T (o.below a b) → T (o.known a) × T (o.known b)
  pub top_known : T (o.known o.top)
  pub under_top : (a : ℕ) → T (o.known a) → T (o.below a o.top)

-- The ladder knows 0 to 15 and compares numbers.
abbrev pub ladder : Order
ladder = record { top = 15; known = λ a. nat_le a 15; below = λ a b. nat_le a b && nat_le b 15 }

-- The badges know 0 to 255; a is at or below b if each bit set in a is set in b.
abbrev pub badges : Order
badges = record { top = 255; known = λ a. nat_le a 255; below = λ a b. nat_le a 255 && (nat_le b 255 && bit_and a b == a) }
