-- A relation that grows by pairs, and one that goes on.
use Rattle.std.proofs.Common.{◌≡◌, ℕ, ◌*◌, ◌<◌, Bool, true, false, ◌&&◌, ◌||◌, eqb, ◌⊎◌, MatchBool, sym, refl, ap, ◌∙◌, subst, inl, inr}
use Rattle.std.proofs.lemmas.Bool.{eqb-true, eq-eqb, or_cases, or_left, or_right, and_parts}
use Rattle.sets.specs.declared.relation.Relation.{Relation}
use Rattle.sets.specs.Member.{relates}
use Rattle.sets.specs.Least.{Joined, Told}
use Rattle.sets.specs.Chains.{Has, Lacks, Chained, given, on}
use Rattle.sets.proofs.Steps.{System}

-- what chains of chains make, chains make
pub cut : {A B : ℕ × ℕ → Type 0} → ((p : ℕ × ℕ) → A p → Chained B p) → {p : ℕ × ℕ} → Chained A p → Chained B p
cut h (given {p = p} x) = h p x
cut h (on x y) = on (cut h x) (cut h y)

abbrev pub chains : (N W : ℕ) → System (Relation N W) (ℕ × ℕ)
chains N W =
    record { has = Has {N = N} {W = W}; lacks = Lacks {N = N} {W = W}; follows = Chained; before = λ B p h. given h; cut = λ A B h p d. cut h d }

-- Row a has gained the numbers that pass the test `more`.
module _ {N W : ℕ} (old new : Relation N W) (a : ℕ) (more : ℕ → Bool) (g : Bool) (h : a < N)
    (members : (x z : ℕ) → relates new x z ≡ (relates old x z || (eqb x a && more z)))
    (grew : MatchBool g ((k : ℕ) × (k < 64 * W) × (relates old a k ≡ false) × (relates new a k ≡ true)) (new ≡ old)) where
  abbrev pub Gained : ℕ × ℕ → Type 0
  Gained p = (p.0 ≡ a) × (p.1 < 64 * W) × (more p.1 ≡ true)

  told : (h : Bool) → MatchBool h ((k : ℕ) × (k < 64 * W) × (relates old a k ≡ false) × (relates new a k ≡ true)) (new ≡ old)
      → Told (Has {N = N} {W = W}) (Lacks {N = N} {W = W}) old new h
  told true w = ((a, w.0), w.2, (h, w.1, w.3))
  told false w = w

  gained : (p : ℕ × ℕ) → Gained p → Has new p
  gained p m = (
    subst (λ (x : ℕ). x < N) (sym m.0) h,
    m.1,
    members p.0 p.1 ∙ or_right (relates old p.0 p.1) (eqb p.0 a && more p.1) (ap (λ (x : Bool). x && more p.1) (eq-eqb p.0 a m.0) ∙ m.2),
  )

  else : (p : ℕ × ℕ) → Has new p → Has old p ⊎ Gained p
  else p n = at (or_cases (relates old p.0 p.1) (eqb p.0 a && more p.1) (sym (members p.0 p.1) ∙ n.2))
    where
      at : (relates old p.0 p.1 ≡ true) ⊎ ((eqb p.0 a && more p.1) ≡ true) → Has old p ⊎ Gained p
      at (inl o) = inl (n.0, n.1, o)
      at (inr e) = let v = and_parts (eqb p.0 a) (more p.1) e in inr (eqb-true p.0 a v.0, n.1, v.1)

  pub joined : Joined (Has {N = N} {W = W}) (Lacks {N = N} {W = W}) old new g Gained
  joined =
      record {
        kept = λ p o. (o.0, o.1, members p.0 p.1 ∙ or_left (relates old p.0 p.1) (eqb p.0 a && more p.1) o.2);
        added = gained;
        else = else;
        told = told g grew;
      }

-- Row a has gained the number b.
module _ {N W : ℕ} (old new : Relation N W) (a b : ℕ) (g : Bool) (h : a < N) (l : b < 64 * W)
    (members : (x z : ℕ) → relates new x z ≡ (relates old x z || (eqb x a && eqb z b)))
    (grew : MatchBool g (relates old a b ≡ false) (new ≡ old)) where
  found : (t : Bool) → MatchBool t (relates old a b ≡ false) (new ≡ old)
      → MatchBool t ((k : ℕ) × (k < 64 * W) × (relates old a k ≡ false) × (relates new a k ≡ true)) (new ≡ old)
  found true e = (
    b,
    l,
    e,
    members a b ∙ or_right (relates old a b) (eqb a a && eqb b b) (ap (λ (x : Bool). x && eqb b b) (eq-eqb a a refl) ∙ eq-eqb b b refl),
  )
  found false e = e

  pub joined_one : Joined (Has {N = N} {W = W}) (Lacks {N = N} {W = W}) old new g (λ p. p ≡ (a, b))
  joined_one =
      let j = joined old new a (λ z. eqb z b) g h members (found g grew) in
      record {
        kept = j.kept;
        added = λ p e. j.added p (ap (λ (q : ℕ × ℕ). q.0) e, subst (λ (y : ℕ). y < 64 * W) (sym (ap (λ (q : ℕ × ℕ). q.1) e)) l, eq-eqb p.1 b (ap (λ (q : ℕ × ℕ). q.1) e));
        else = λ p n. that p (j.else p n);
        told = j.told;
      }
    where
      that : (p : ℕ × ℕ) → Has old p ⊎ ((p.0 ≡ a) × (p.1 < 64 * W) × (eqb p.1 b ≡ true)) → Has old p ⊎ (p ≡ (a, b))
      that p (inl o) = inl o
      that p (inr m) = inr (λ i. (m.0 i, eqb-true p.1 b m.2 i))
