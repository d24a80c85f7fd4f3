-- Inclusion of bits, which `bit_and a b ≡ a` says, is transitive.
use Rattle.std.specs.Prelude.{◌≡◌, ℕ, ◌/◌, bit_and, refl}
use Rattle.std.proofs.Common.{arith}
use Rattle.std.proofs.Math.Arith.{bin_ind}
use Rattle.std.specs.Int.Bits.{and_step}

pub within_trans : (a b c : ℕ) → bit_and a b ≡ a → bit_and b c ≡ b → bit_and a c ≡ a
within_trans =
    bin_ind (λ (n : ℕ). (b c : ℕ) → bit_and n b ≡ n → bit_and b c ≡ b → bit_and n c ≡ n) (λ b c p q. refl)
    (λ n ih b c p q.
    let hp : bit_and (n / 2) (b / 2) ≡ n / 2 = omega (arith, and_step n b) in
    let hq : bit_and (b / 2) (c / 2) ≡ b / 2 = omega (arith, and_step b c) in
    let hr : bit_and (n / 2) (c / 2) ≡ n / 2 = ih (b / 2) (c / 2) hp hq in
    omega (arith, and_step n b, and_step b c, and_step n c))
