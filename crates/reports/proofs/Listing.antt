-- The report lists exactly the pairs of which the first session controls the second, in ascending order.
use Rattle.std.proofs.Common.{◌≡◌, ℕ, zero, suc, ◌<◌, ◌≤◌, Bool, true, false, cond, not, T, eqb, List, [], ◌∷◌, ◌++◌, sym, refl, ap, ◌∙◌, subst, inl, inr, arith}
use mathlib.Core.List.Memᴰ
use mathlib.Core.List.{Memᴰ as Listed}
use Rattle.std.proofs.lemmas.Bool.{cases_lt, and_parts, and_from, not-true, not_from_false, eqb-false, ne_eqb}
use Rattle.model.specs.declared.fact.Fact.TheVariants.{Control}
use Rattle.model.specs.Records.{State, Session}
use Rattle.reports.specs.Report.{controls, up_to, pair, row, pairs, Before, Ascends, ListsAll}

-- ## Lists one behind the other

ascends_append : (ps qs : List (ℕ × ℕ)) → Ascends ps → Ascends qs → ((p q : ℕ × ℕ) → Listed p ps → Listed q qs → Before p q) → Ascends (ps ++ qs)
ascends_append [] qs a b h = b
ascends_append (p ∷ ps) qs a b h = (
  λ q m. elim (Memᴰ.append_cases ps m) [ inl here ↦ a.0 q here | inr there ↦ h p q (Listed.head refl) there ],
  ascends_append ps qs a.1 b (λ r q m. h r q (Listed.tail m)),
)

module _ (f : ℕ → List (ℕ × ℕ)) where
  from_one : (p : ℕ × ℕ) (n k : ℕ) → 1 ≤ k → k ≤ n → Listed p (f k) → Listed p (up_to n f)
  unfolding up_to
  from_one p zero k l h m = absurd (omega arith)
  from_one p (suc n) k l h m =
      elim (cases_lt k (suc n)) [
        | inl less ↦ Memᴰ.append_left (f (suc n)) (from_one p n k l (omega arith) m)
        | inr most ↦ let same : k ≡ suc n = omega arith in Memᴰ.append_right (up_to n f) (subst (λ (j : ℕ). Listed p (f j)) same m)
      ]

  to_one : (p : ℕ × ℕ) (n : ℕ) → Listed p (up_to n f) → (k : ℕ) × (1 ≤ k) × (k ≤ n) × Listed p (f k)
  unfolding up_to
  to_one p zero m = absurd (Memᴰ.not-nil m)
  to_one p (suc n) m =
      elim (Memᴰ.append_cases (up_to n f) m) [
        | inl before ↦ let o = to_one p n before in (o.0, o.1, omega (arith, o.2), o.3)
        | inr last ↦ (suc n, omega arith, omega arith, last)
      ]

  ascends : ((k : ℕ) → Ascends (f k)) → ((j k : ℕ) (p q : ℕ × ℕ) → j < k → Listed p (f j) → Listed q (f k) → Before p q) → (n : ℕ) → Ascends (up_to n f)
  unfolding up_to
  ascends each across zero = tt
  ascends each across (suc n) =
      ascends_append (up_to n f) (f (suc n)) (ascends each across n) (each (suc n))
      (λ p q m l. let o = to_one p n m in across o.0 (suc n) p q (omega (arith, o.2)) o.3 l)

-- ## The pairs

stands_from : (b : Bool) → b ≡ true → T b
stands_from b h = subst T (sym h) tt

true_from : (b : Bool) → T b → b ≡ true
true_from true h = refl
true_from false h = absurd h

-- equal pairs have equal sessions
first : {p q : ℕ × ℕ} → p ≡ q → p.0 ≡ q.0
first e = ap (λ (x : ℕ × ℕ). x.0) e

second : {p q : ℕ × ℕ} → p ≡ q → p.1 ≡ q.1
second e = ap (λ (x : ℕ × ℕ). x.1) e

module _ (S : State) where
  to_pair : (s t : ℕ) (p : ℕ × ℕ) → Listed p (pair S s t) → (p ≡ (s, t)) × (controls S s t ≡ true)
  to_pair s t p = go (controls S s t)
    where
      go : (b : Bool) → Listed p (cond b ((s, t) ∷ []) []) → (p ≡ (s, t)) × (b ≡ true)
      go true m = (Memᴰ.eq_of_singleton m, refl)
      go false m = absurd (Memᴰ.not-nil m)

  from_pair : (s t : ℕ) → controls S s t ≡ true → Listed (s, t) (pair S s t)
  from_pair s t h = subst (λ (b : Bool). Listed {A = ℕ × ℕ} (s, t) (cond b ((s, t) ∷ []) [])) (sym h) (Listed.head refl)

  -- a pair of row s is one of s
  of_row : (s : ℕ) (p : ℕ × ℕ) → Listed p (row S s) → (t : ℕ) × Session t × (p ≡ (s, t)) × (controls S s t ≡ true)
  of_row s p m =
      let o = to_one (pair S s) p 63 m in
      let is = to_pair s o.0 p o.3 in
      (o.0, (o.1, o.2), is.0, is.1)

  ascends_pair : (s t : ℕ) → Ascends (pair S s t)
  ascends_pair s t = go (controls S s t)
    where
      go : (b : Bool) → Ascends (cond b ((s, t) ∷ []) [])
      go true = (λ q m. absurd (Memᴰ.not-nil m), tt)
      go false = tt

  ascends_row : (s : ℕ) → Ascends (row S s)
  ascends_row s =
      ascends (pair S s) (ascends_pair s)
      (λ j k p q l m n.
      let a = (to_pair s j p m).0 in
      let b = (to_pair s k q n).0 in
      inr (first a ∙ sym (first b), omega (arith, second a, second b)))
      63

  pub lists_all : ListsAll S (pairs S)
  lists_all =
      record {
        every = λ s t c. from_one (row S) (s, t) 63 s c.0.0 c.0.1
            (from_one (pair S s) (s, t) 63 t c.1.0 c.1.1
            (from_pair s t (and_from (not (eqb s t)) (S.stands (Control s t)) (not_from_false (eqb s t) (ne_eqb s t c.2)) (true_from (S.stands (Control s t)) c.3))));
        only = λ s t m.
            let o = to_one (row S) (s, t) 63 m in
            let r = of_row o.0 (s, t) o.3 in
            let both = and_parts (not (eqb o.0 r.0)) (S.stands (Control o.0 r.0)) r.3 in
            let other = eqb-false o.0 r.0 (not-true (eqb o.0 r.0) both.0) in (
              (omega (arith, o.1, first r.2), omega (arith, o.2, first r.2)),
              (omega (arith, r.1.0, second r.2), omega (arith, r.1.1, second r.2)),
              (λ e. other (sym (first r.2) ∙ e ∙ second r.2)),
              stands_from (S.stands (Control s t)) (ap (λ (x : ℕ × ℕ). S.stands (Control x.0 x.1)) r.2 ∙ both.1),
            );
        ascends = ascends (row S) ascends_row (λ j k p q l m n. inl (omega (arith, first (of_row j p m).2, first (of_row k q n).2))) 63;
      }
