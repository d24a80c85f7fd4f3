-- Numbers in decimal, digit by digit. Assumes nothing.
use Rattle.std.proofs.Common.{◌≡◌, ℕ, zero, suc, ◌+◌, ◌/◌, ◌%◌, ◌^◌, ◌*◌, max, ◌<◌, ◌≤◌, List, [], ◌∷◌, ◌++◌, map, length, sym, refl, ap, ◌∙◌, arith}
use lib.ListN.{length-map}
use Rattle.std.specs.Int.Digits.{digits_of}
use Rattle.std.proofs.lemmas.Int.Digits.{digits_of_step, length-digits_of_step, length-digits_of-le}
use Rattle.std.proofs.lemmas.List.{map-append, nil_from_length}
use Rattle.text.specs.Lines.{numeral}

-- the digits of the part of a number that is left
abbrev pub digits : ℕ → ℕ
digits n = length (digits_of 10 n)

pub digits_more : (n : ℕ) → 0 < n → digits n ≡ digits (n / 10) + 1
digits_more n h = length-digits_of_step 10 n (omega arith) h

-- a number has its last digit, and those of its tenth
pub numeral_length : (n : ℕ) → length (numeral n) ≡ digits (n / 10) + 1
unfolding numeral
numeral_length zero = refl
numeral_length (suc n) = length-map (digits_of 10 (suc n)) (λ d. 48 + d) ∙ digits_more (suc n) (omega arith)

pub numeral_few : (n : ℕ) → n < 2 ^ 32 → length (numeral n) ≤ 10
numeral_few n h = omega (arith, numeral_length n, length-digits_of-le 10 9 (n / 10) (omega arith) (omega arith))

-- and as many as its logarithm says
digits_exact : (k n : ℕ) → 10 ^ k ≤ n → n < 10 * 10 ^ k → digits n ≡ k + 1
digits_exact zero n low high =
    let none : n / 10 ≡ 0 = omega arith in
    digits_more n (omega arith) ∙ ap (λ m. digits m + 1) none
digits_exact (suc k) n low high =
    let power : 10 ^ suc k ≡ 10 * 10 ^ k = omega arith in
    omega (arith, digits_more n (omega (arith, low, power)), digits_exact k (n / 10) (omega (arith, low, power)) (omega (arith, high, power)))

numeral_digits : (n : ℕ) → length (numeral n) ≡ digits (max n 1)
unfolding numeral
numeral_digits zero = refl
numeral_digits (suc n) = let whole : suc n ≡ max (suc n) 1 = omega arith in length-map (digits_of 10 (suc n)) (λ d. 48 + d) ∙ ap digits whole

pub numeral_log : (k n : ℕ) → 10 ^ k ≤ max n 1 → max n 1 < 10 * 10 ^ k → length (numeral n) ≡ k + 1
numeral_log k n low high = numeral_digits n ∙ digits_exact k (max n 1) low high

-- the last k digits of n
abbrev pub last : ℕ → ℕ → List ℕ
last zero n = []
last (suc k) n = last k (n / 10) ++ (48 + n % 10) ∷ []

last_all : (k n : ℕ) → digits n ≡ k → map (λ d. 48 + d) (digits_of 10 n) ≡ last k n
last_all zero n h = ap (map (λ d. 48 + d)) (nil_from_length (digits_of 10 n) h)
last_all (suc k) zero h = absurd (omega arith)
last_all (suc k) (suc n) h =
    ap (map (λ d. 48 + d)) (digits_of_step 10 (suc n) (omega arith) (omega arith))
    ∙ map-append (λ d. 48 + d) (digits_of 10 (suc n / 10)) (suc n % 10 ∷ [])
    ∙ ap (λ t. t ++ (48 + suc n % 10) ∷ []) (last_all k (suc n / 10) (omega (arith, digits_more (suc n) (omega arith))))

pub numeral_last : (n : ℕ) → numeral n ≡ last (length (numeral n)) n
unfolding numeral
numeral_last zero = refl
numeral_last (suc n) = last_all (length (numeral (suc n))) (suc n) (sym (length-map (digits_of 10 (suc n)) (λ d. 48 + d)))
