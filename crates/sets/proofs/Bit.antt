-- The bits of a number: of a power, of `|` and `&`, and what these tell of two numbers.
use Rattle.std.proofs.Common.{◌≡◌, ℕ, zero, suc, ◌-◌, ◌*◌, ◌/◌, ◌%◌, ◌^◌, ◌<◌, ◌≤◌, Bool, true, false, not, ◌&&◌, ◌||◌, eqb, ◌⊎◌, MatchBool, sym, refl, ap, ◌∙◌, inl, inr, pow-suc, arith}
use mir.Syntax.{w64}
use lib.Bits.{bit_and, bit_or, or_lt, and_lt}
use Rattle.std.proofs.lemmas.Nat.{pow_pos}
use Rattle.std.proofs.lemmas.Nat.Bits.{bit_at_lowest, bit_at-suc, bit_at-zero, bit_at-lt, bit_at_or, bit_at_and, bit_at-pow_same, bit_at-pow_other, bit_at_above, bit_at_set_same, bit_at_set_other, bit_at_clear_same, bit_at_clear_other}
use Rattle.std.proofs.lemmas.Bool.{cases_eq, cases_lt, eqb-true, eqb-false, false≢true}
use Rattle.std.proofs.lemmas.Bool.Decides.{nat_tests}
use Rattle.sets.specs.Member.{bit}

pub bit_of_or : (a b k : ℕ) → bit (bit_or a b) k ≡ (bit a k || bit b k)
unfolding bit
bit_of_or a b k = grind (arith, nat_tests, bit_at_or a b k, bit_at-lt a k, bit_at-lt b k)

pub bit_of_and : (a b k : ℕ) → bit (bit_and a b) k ≡ (bit a k && bit b k)
unfolding bit
bit_of_and a b k = grind (arith, nat_tests, bit_at_and a b k, bit_at-lt a k, bit_at-lt b k)

-- bit 0 is the last digit, and bit k + 1 is bit k of the half
pub bit_zero : (a : ℕ) → bit a 0 ≡ eqb (a % 2) 1
unfolding bit
bit_zero a = ap (λ (x : ℕ). eqb x 1) (bit_at_lowest a)

pub bit_suc : (a k : ℕ) → bit a (suc k) ≡ bit (a / 2) k
unfolding bit
bit_suc a k = ap (λ (x : ℕ). eqb x 1) (bit_at-suc a k)

pub bit_none : (k : ℕ) → bit 0 k ≡ false
unfolding bit
bit_none k = ap (λ (x : ℕ). eqb x 1) (bit_at-zero k)

pub bit_one : (i k : ℕ) → bit (2 ^ i) k ≡ eqb k i
unfolding bit
bit_one i k = grind (arith, nat_tests, bit_at-pow_same i, bit_at-pow_other i k)

pub bit_above : (n a k : ℕ) → a < 2 ^ n → n ≤ k → bit a k ≡ false
unfolding bit
bit_above n a k h l = ap (λ (x : ℕ). eqb x 1) (bit_at_above a n k h l)

odd_differ : (p q : ℕ) → p < 2 → q < 2 → (p ≡ q → ⊥) → eqb p 1 ≡ eqb q 1 → ⊥
odd_differ p q hp hq ne e = grind (arith, nat_tests)

-- two numbers of n bits that differ, differ in a bit
pub differ_in : (n a b : ℕ) → a < 2 ^ n → b < 2 ^ n → (a ≡ b → ⊥) → (k : ℕ) × (k < n) × (bit a k ≡ bit b k → ⊥)
differ_in zero a b ha hb ne = absurd (ne (omega arith))
differ_in (suc n) a b ha hb ne =
    at (cases_eq (a % 2) (b % 2))
    (λ h. differ_in n (a / 2) (b / 2) (omega (arith, pow-suc 2 n)) (omega (arith, pow-suc 2 n)) h)
  where
    at : ((a % 2 ≡ b % 2) ⊎ (a % 2 ≡ b % 2 → ⊥)) → ((a / 2 ≡ b / 2 → ⊥) → (k : ℕ) × (k < n) × (bit (a / 2) k ≡ bit (b / 2) k → ⊥))
        → (k : ℕ) × (k < suc n) × (bit a k ≡ bit b k → ⊥)
    at (inl e) up =
        let d = up (λ h. ne (omega arith)) in
        (suc d.0, omega (arith, d.1), λ e. d.2 (sym (bit_suc a d.0) ∙ e ∙ bit_suc b d.0))
    at (inr d) up =
        (0, omega arith, λ e. odd_differ (a % 2) (b % 2) (omega arith) (omega arith) d (sym (bit_zero a) ∙ e ∙ bit_zero b))

-- what a union tells: a new number, or that it is the old set
pub or_tells : (n a b : ℕ) → a < 2 ^ n → b < 2 ^ n
    → MatchBool (not (eqb (bit_or a b) a)) ((k : ℕ) × (k < n) × (bit a k ≡ false) × (bit (bit_or a b) k ≡ true)) (bit_or a b ≡ a)
or_tells n a b ha hb = go (eqb (bit_or a b) a) refl
  where
    new : (x y : Bool) → ((x || y) ≡ x → ⊥) → (x ≡ false) × ((x || y) ≡ true)
    new true y h = absurd (h refl)
    new false true h = (refl, refl)
    new false false h = absurd (h refl)

    found : (k : ℕ) → (bit (bit_or a b) k ≡ bit a k → ⊥) → (bit a k ≡ false) × (bit (bit_or a b) k ≡ true)
    found k h = let p = new (bit a k) (bit b k) (λ e. h (bit_of_or a b k ∙ e)) in (p.0, bit_of_or a b k ∙ p.1)

    go : (t : Bool) → eqb (bit_or a b) a ≡ t
        → MatchBool (not t) ((k : ℕ) × (k < n) × (bit a k ≡ false) × (bit (bit_or a b) k ≡ true)) (bit_or a b ≡ a)
    go true e = eqb-true (bit_or a b) a e
    go false e =
        let d = differ_in n (bit_or a b) a (or_lt n a b ha hb) ha (eqb-false (bit_or a b) a e) in
        let f = found d.0 d.2 in (d.0, d.1, f.0, f.1)

-- what an intersection tells
pub and_tells : (n a b : ℕ) → a < 2 ^ n → b < 2 ^ n
    → MatchBool (not (eqb (bit_and a b) 0)) ((k : ℕ) × (k < n) × (bit a k ≡ true) × (bit b k ≡ true)) ((k : ℕ) → bit a k ≡ true → bit b k ≡ false)
and_tells n a b ha hb = go (eqb (bit_and a b) 0) refl
  where
    both : (x y : Bool) → ((x && y) ≡ false → ⊥) → (x ≡ true) × (y ≡ true)
    both true true h = (refl, refl)
    both true false h = absurd (h refl)
    both false y h = absurd (h refl)

    none : (x y : Bool) → (x && y) ≡ false → x ≡ true → y ≡ false
    none true y h e = h
    none false y h e = absurd (false≢true e)

    go : (t : Bool) → eqb (bit_and a b) 0 ≡ t
        → MatchBool (not t) ((k : ℕ) × (k < n) × (bit a k ≡ true) × (bit b k ≡ true)) ((k : ℕ) → bit a k ≡ true → bit b k ≡ false)
    go true e =
        λ k. none (bit a k) (bit b k) (sym (bit_of_and a b k) ∙ ap (λ (x : ℕ). bit x k) (eqb-true (bit_and a b) 0 e) ∙ bit_none k)
    go false e =
        let d = differ_in n (bit_and a b) 0 (and_lt n a b ha hb) (pow_pos n) (eqb-false (bit_and a b) 0 e) in
        let f = both (bit a d.0) (bit b d.0) (λ z. d.2 (bit_of_and a b d.0 ∙ z ∙ sym (bit_none d.0))) in
        (d.0, d.1, f.0, f.1)

without_below : (a i k : ℕ) → i < 64 → k < 64 → bit (bit_and a (2 ^ 64 - 1 - (1 * 2 ^ i) % 2 ^ 64)) k ≡ (not (eqb k i) && bit a k)
unfolding bit
without_below a i k l b = grind (arith, nat_tests, bit_at_clear_same w64 a i l, bit_at_clear_other w64 a i l k b)

-- a word with bit i taken out
pub without : (a i k : ℕ) → a < 2 ^ 64 → i < 64 → bit (bit_and a (2 ^ 64 - 1 - (1 * 2 ^ i) % 2 ^ 64)) k ≡ (not (eqb k i) && bit a k)
without a i k h l = at (cases_lt k 64)
  where
    none : (x y z : Bool) → x ≡ false → (x && y) ≡ (z && x)
    none true y z e = absurd (false≢true (sym e))
    none false y true e = refl
    none false y false e = refl

    at : ((k < 64) ⊎ (64 ≤ k)) → bit (bit_and a (2 ^ 64 - 1 - (1 * 2 ^ i) % 2 ^ 64)) k ≡ (not (eqb k i) && bit a k)
    at (inl b) = without_below a i k l b
    at (inr g) = bit_of_and a (2 ^ 64 - 1 - (1 * 2 ^ i) % 2 ^ 64) k ∙ none (bit a k) _ (not (eqb k i)) (bit_above 64 a k h g)

-- and one with bit i put in
pub with_one : (a i k : ℕ) → i < 64 → bit (bit_or a ((1 * 2 ^ i) % 2 ^ 64)) k ≡ (bit a k || eqb k i)
unfolding bit
with_one a i k l = grind (arith, nat_tests, bit_at_set_same w64 a i l, bit_at_set_other w64 a i l k)

-- what is there is not new
pub or_had : (p : ℕ → Bool) (i k : ℕ) → p i ≡ true → p k ≡ (p k || eqb k i)
or_had p i k h = at (p k) (eqb k i) refl refl
  where
    at : (x y : Bool) → p k ≡ x → eqb k i ≡ y → x ≡ (x || y)
    at true y d e = refl
    at false false d e = refl
    at false true d e = sym d ∙ ap p (eqb-true k i e) ∙ h
