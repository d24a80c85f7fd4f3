-- Numbers in decimal, of any size. Assumes nothing.
use Rattle.std.proofs.Common.{◌≡◌, ℕ, zero, suc, ◌+◌, ◌-◌, ◌*◌, ◌/◌, ◌%◌, ◌^◌, ◌<◌, ◌≤◌, min, true, false, List, [], ◌∷◌, ◌++◌, map, length, get_or, take, sym, refl, ap, ◌∙◌, subst, ⊎_elim, append_assoc, append-nil, arith}
use lib.Arith.{digits_div, digits_mod}
use Rattle.std.specs.Int.Digits.{digits_of, number_from_digits_after, AllBelowBase}
use Rattle.std.specs.List.{AllByRecursion}
use Rattle.std.proofs.lemmas.Int.Digits.{digits_of_step, number_digits_of, all_below_base_digits_of, first_digits_of}
use Rattle.std.proofs.ByRecursion.{All-map, All-weaker, All-get_or}
use Rattle.std.proofs.lemmas.List.{map-append, take_more, take_all}
use Rattle.std.proofs.lemmas.Bool.{cases_eq}
use Rattle.std.proofs.lemmas.Bool.Decides.{nat_tests}
use Rattle.text.specs.Lines.{numeral}
use Rattle.text.specs.Cut.{Lacks}
use Rattle.text.specs.Post.{leading_zero, Writes}

abbrev pub Digit : ℕ → Type 0
Digit c = (48 ≤ c) × (c ≤ 57)

-- the number that digits write, behind those of n
abbrev pub after : ℕ → List ℕ → ℕ
after n [] = n
after n (c ∷ cs) = after (n * 10 + (c - 48)) cs

-- digits without a leading zero
pub record Plain (s : List ℕ) : Type 0 where
  pub some : 0 < length s
  pub digits : AllByRecursion Digit s
  pub lead : get_or s 0 0 ≡ 48 → length s ≡ 1

spell : ℕ → List ℕ
spell n = map (λ d. 48 + d) (digits_of 10 n)

numeral_spell : (n : ℕ) → 0 < n → numeral n ≡ spell n
unfolding numeral spell
numeral_spell zero h = absurd (omega arith)
numeral_spell (suc n) h = refl

spell_push : (n c : ℕ) → 0 < n → Digit c → spell (n * 10 + (c - 48)) ≡ spell n ++ c ∷ []
unfolding spell
spell_push n c p d =
    let small : c - 48 < 10 = omega arith in
    let whole : 0 < n * 10 + (c - 48) = omega arith in
    let step = digits_of_step 10 (n * 10 + (c - 48)) (omega arith) whole in
    let q : (n * 10 + (c - 48)) / 10 ≡ n = digits_div n small in
    let m : (n * 10 + (c - 48)) % 10 ≡ c - 48 = digits_mod n small in
    let last : 48 + (c - 48) ≡ c = omega arith in
    ap (map (λ k. 48 + k)) (step ∙ (λ i. digits_of 10 (q i) ++ (m i ∷ []))) ∙ map-append (λ k. 48 + k) (digits_of 10 n) ((c - 48) ∷ []) ∙ ap (λ k. map (λ j. 48 + j) (digits_of 10 n) ++ k ∷ []) last

spell_after : (n : ℕ) (s : List ℕ) → 0 < n → AllByRecursion Digit s → spell (after n s) ≡ spell n ++ s
spell_after n [] p d = sym (append-nil _)
spell_after n (c ∷ cs) p d =
    let more : 0 < n * 10 + (c - 48) = omega arith in
    spell_after (n * 10 + (c - 48)) cs more d.1 ∙ ap (λ t. t ++ cs) (spell_push n c p d.0) ∙ append_assoc (spell n) (c ∷ []) cs

after_ge : (n : ℕ) (s : List ℕ) → n ≤ after n s
after_ge n [] = omega arith
after_ge n (c ∷ cs) = omega (arith, after_ge (n * 10 + (c - 48)) cs)

spell_digit : (c : ℕ) → Digit c → (c ≡ 48 → ⊥) → spell (c - 48) ≡ c ∷ []
unfolding spell
spell_digit c d ne =
    let some : 0 < c - 48 = omega arith in
    let small : c - 48 < 10 = omega arith in
    let q : (c - 48) / 10 ≡ 0 = omega arith in
    let m : (c - 48) % 10 ≡ c - 48 = omega arith in
    let last : 48 + (c - 48) ≡ c = omega arith in
    ap (map (λ k. 48 + k)) (digits_of_step 10 (c - 48) (omega arith) some ∙ (λ i. digits_of 10 (q i) ++ (m i ∷ []))) ∙ ap (λ k. k ∷ []) last

zero_alone : (c : ℕ) (cs : List ℕ) → c ≡ 48 → length (c ∷ cs) ≡ 1 → c ∷ cs ≡ numeral (after 0 (c ∷ cs))
unfolding numeral
zero_alone c [] e l = let z : 0 * 10 + (c - 48) ≡ 0 = omega arith in ap (λ k. k ∷ []) e ∙ sym (ap numeral z)
zero_alone c (x ∷ cs) e l = absurd (omega arith)

-- digits without a leading zero are a numeral
pub numeral_after : (s : List ℕ) → Plain s → s ≡ numeral (after 0 s)
numeral_after [] h = absurd (omega (arith, h.some))
numeral_after (c ∷ cs) h =
    ⊎_elim
    (λ e. zero_alone c cs e (h.lead e))
    (λ ne.
    let some : 0 < 0 * 10 + (c - 48) = omega (arith, h.digits.0) in
    let all = after_ge (0 * 10 + (c - 48)) cs in
    let start : 0 * 10 + (c - 48) ≡ c - 48 = omega arith in
    sym (numeral_spell (after 0 (c ∷ cs)) (omega arith) ∙ spell_after (0 * 10 + (c - 48)) cs some h.digits.1 ∙ ap (λ n. spell n ++ cs) start ∙ ap (λ t. t ++ cs) (spell_digit c h.digits.0 ne)))
    (cases_eq c 48)

-- and a numeral is such digits
digit_up : (d : ℕ) → d < 10 → Digit (48 + d)
digit_up d h = (omega arith, omega arith)

plain_up : (ds : List ℕ) → AllBelowBase 10 ds → 0 < get_or ds 0 0 → Plain (map (λ d. 48 + d) ds)
plain_up [] u h = absurd (omega arith)
plain_up (d ∷ ds) u h = record {
  some = omega arith;
  digits = All-map Digit (λ k. 48 + k) (d ∷ ds) (All-weaker (λ k. k < 10) (λ k. Digit (48 + k)) digit_up (d ∷ ds) u);
  lead = λ e. absurd (omega arith);
}

pub plain : (n : ℕ) → Plain (numeral n)
unfolding numeral
plain zero = record { some = omega arith; digits = ((omega arith, omega arith), tt); lead = λ _. refl }
plain (suc n) = plain_up (digits_of 10 (suc n)) (all_below_base_digits_of 10 (suc n) (omega arith)) (first_digits_of 10 (suc n) (omega arith) (omega arith))

after_map : (n : ℕ) (ds : List ℕ) → after n (map (λ d. 48 + d) ds) ≡ number_from_digits_after 10 n ds
after_map n [] = refl
after_map n (d ∷ ds) = let e : n * 10 + (48 + d - 48) ≡ n * 10 + d = omega arith in ap (λ k. after k (map (λ j. 48 + j) ds)) e ∙ after_map (n * 10 + d) ds

pub after_numeral : (n : ℕ) → after 0 (numeral n) ≡ n
unfolding numeral
after_numeral zero = refl
after_numeral (suc n) = after_map 0 (digits_of 10 (suc n)) ∙ number_digits_of 10 (suc n) (omega arith)

-- a numeral has one number
pub numeral_same : (m n : ℕ) → numeral m ≡ numeral n → m ≡ n
numeral_same m n e = sym (after_numeral m) ∙ ap (after 0) e ∙ after_numeral n

pub numeral_lacks : (b n : ℕ) → (Digit b → ⊥) → Lacks b (numeral n)
numeral_lacks b n h = All-weaker Digit (λ x. x ≡ b → ⊥) (λ x d e. h (subst Digit e d)) (numeral n) (plain n).digits

pub after_push : (n : ℕ) (s : List ℕ) (c : ℕ) → after n (s ++ c ∷ []) ≡ after n s * 10 + (c - 48)
after_push n [] c = refl
after_push n (x ∷ s) c = after_push (n * 10 + (x - 48)) s c

-- what is no digits without a leading zero is no numeral
pub not_numeral : (s : List ℕ) → (Plain s → ⊥) → (n : ℕ) → s ≡ numeral n → ⊥
not_numeral s h n e = h (subst Plain (sym e) (plain n))

pub not_digit : (s : List ℕ) (i : ℕ) → i < length s → (Digit (get_or s i 0) → ⊥) → (n : ℕ) → s ≡ numeral n → ⊥
not_digit s i l h = not_numeral s (λ p. h (All-get_or Digit s i 0 l p.digits))

-- the test that the code makes
pub zero_led : (s : List ℕ) → leading_zero s ≡ true → (n : ℕ) → s ≡ numeral n → ⊥
zero_led s h = let zero : get_or s 0 0 ≡ 48 = grind (arith, nat_tests) in let many : 1 < length s = grind (arith, nat_tests) in not_numeral s (λ p. omega (arith, p.lead zero))

pub not_led : (s : List ℕ) → leading_zero s ≡ false → get_or s 0 0 ≡ 48 → length s ≤ 1
not_led s h e = grind (arith, nat_tests)

-- one digit more of a number that is held up to a limit
pub held_more : (s : List ℕ) (i limit n v : ℕ) → i < length s → 0 < limit → Digit (get_or s i 0) → v ≡ min (after 0 (take i s)) limit → n ≡ min (v * 10 + (get_or s i 0 - 48)) limit → n ≡ min (after 0 (take (i + 1) s)) limit
held_more s i limit n v l some d is new =
    let more = ap (after 0) (take_more s i 0 l) ∙ after_push 0 (take i s) (get_or s i 0) in
    omega arith

pub writes : (s : List ℕ) (i v : ℕ) → length s ≤ i → 0 < length s → (get_or s 0 0 ≡ 48 → length s ≤ 1) → AllByRecursion Digit (take i s) → v ≡ min (after 0 (take i s)) (2 ^ 32) → Writes s v
writes s i v all some lead digits is =
    let e = take_all i s all in
    record {
      value = after 0 s;
      text = numeral_after s (record { some = some; digits = subst (AllByRecursion Digit) e digits; lead = λ h. let k = lead h in omega arith });
      held = is ∙ ap (λ t. min (after 0 t) (2 ^ 32)) e;
    }
