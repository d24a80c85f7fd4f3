-- How many numbers pass a test, and that the set bits of a number are counted so.
use Rattle.std.proofs.Common.{◌≡◌, ℕ, zero, suc, ◌+◌, ◌/◌, ◌%◌, ◌^◌, ◌<◌, Bool, cond, sym, refl, ◌∙◌, ap₂, pow-suc, arith}
use lib.Count.{ones, ones_step, ones-le}
use Rattle.std.proofs.lemmas.Bool.Decides.{nat_tests}
use Rattle.sets.specs.Member.{bit}
use Rattle.sets.proofs.Bit.{bit_zero, bit_suc}
use Rattle.policy.specs.Rule.{count}

pub count_same : (f g : ℕ → Bool) (n : ℕ) → ((k : ℕ) → k < n → f k ≡ g k) → count f n ≡ count g n
unfolding count
count_same f g zero e = refl
count_same f g (suc n) e =
    ap₂ (λ (b : Bool) (m : ℕ). cond b 1 0 + m) (e n (omega arith)) (count_same f g n (λ k h. e k (omega arith)))

-- the least number first
count_from : (f : ℕ → Bool) (n : ℕ) → count f (suc n) ≡ cond (f 0) 1 0 + count (λ k. f (suc k)) n
unfolding count
count_from f zero = refl
count_from f (suc n) = omega (arith, count_from f n)

odd_count : (a : ℕ) → a % 2 ≡ cond (bit a 0) 1 0
odd_count a = rw bit_zero (grind (arith, nat_tests))

pub ones_count : (n a : ℕ) → a < 2 ^ n → ones a ≡ count (bit a) n
unfolding count
ones_count zero a h = omega (arith, ones-le 0 a h)
ones_count (suc n) a h =
    let halves = count_same (bit (a / 2)) (λ k. bit a (suc k)) n (λ k _. sym (bit_suc a k)) in
    ones_step a ∙ ap₂ ◌+◌ (odd_count a) (ones_count n (a / 2) (omega (arith, pow-suc 2 n)) ∙ halves) ∙ sym (count_from (bit a) n)
