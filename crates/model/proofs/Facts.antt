-- Equal facts, facts among others, and what an effect leaves.
use Rattle.std.proofs.Common.{◌≡◌, ℕ, Bool, cond, not, ◌&&◌, T, eqb, ◌⊎◌, List, [], ◌∷◌, sym, refl, ap, ◌∙◌, subst, inl, inr, ⊎_elim, eqb→eq, T_not}
use lib.Dec.{not_T}
use Rattle.std.specs.List.{AllByRecursion}
use Rattle.model.specs.declared.fact.Fact.{Fact}
use Rattle.model.specs.declared.fact.Fact.TheVariants.{Lives, Held, Right, Access, Holding, Flow, Control}
use Rattle.model.specs.declared.fact.Mode.{Mode}
use Rattle.model.specs.declared.fact.Mode.TheVariants.{Read, Write, Execute, Own}
use Rattle.model.specs.Records.{rank, code, same, among}
use Rattle.model.specs.Effects.{Effect, left}
use Rattle.model.proofs.Tests.{parts, joined, either, or_left, or_right}

-- ## Equal facts

-- the mode of a rank, and the fact of a code
abbrev ranked : ℕ → Mode
ranked n = cond (eqb n 0) Read (cond (eqb n 1) Write (cond (eqb n 2) Execute Own))

abbrev decoded : ℕ × ℕ × ℕ × ℕ → Fact
decoded c =
    cond (eqb c.0 0) (Lives c.3) (cond (eqb c.0 1) (Held c.3 c.2) (cond (eqb c.0 2) (Right c.3 c.2 (ranked c.1))
    (cond (eqb c.0 3) (Access c.3 c.2 (ranked c.1)) (cond (eqb c.0 4) (Holding c.3 c.2) (cond (eqb c.0 5) (Flow c.3 c.2) (Control c.3 c.2))))))

ranked_rank : (m : Mode) → ranked (rank m) ≡ m
ranked_rank Read = refl
ranked_rank Write = refl
ranked_rank Execute = refl
ranked_rank Own = refl

decoded_code : (f : Fact) → decoded (code f) ≡ f
decoded_code (Lives i) = refl
decoded_code (Held s r) = refl
decoded_code (Right r i m) = ap (Right r i) (ranked_rank m)
decoded_code (Access s i m) = ap (Access s i) (ranked_rank m)
decoded_code (Holding c e) = refl
decoded_code (Flow a b) = refl
decoded_code (Control s t) = refl

same_codes : (c d : ℕ × ℕ × ℕ × ℕ) → T (eqb c.0 d.0 && (eqb c.1 d.1 && (eqb c.2 d.2 && eqb c.3 d.3))) → c ≡ d
same_codes c d t =
    let p = parts (eqb c.0 d.0) (eqb c.1 d.1 && (eqb c.2 d.2 && eqb c.3 d.3)) t in
    let q = parts (eqb c.1 d.1) (eqb c.2 d.2 && eqb c.3 d.3) p.1 in
    let r = parts (eqb c.2 d.2) (eqb c.3 d.3) q.1 in
    λ i. (eqb→eq _ _ p.0 i, eqb→eq _ _ q.0 i, eqb→eq _ _ r.0 i, eqb→eq _ _ r.1 i)

pub same_equal : (f g : Fact) → T (same f g) → f ≡ g
same_equal f g t = sym (decoded_code f) ∙ (ap decoded (same_codes (code f) (code g) t) ∙ decoded_code g)

-- what holds of each fact listed holds of each that is among them
pub listed : (P : Fact → Type 0) (fs : List Fact) → AllByRecursion P fs → (f : Fact) → T (among f fs) → P f
listed P [] all f t = absurd t
listed P (g ∷ gs) all f t = ⊎_elim (λ s. subst P (sym (same_equal f g s)) all.0) (λ u. listed P gs all.1 f u) (either (same f g) (among f gs) t)

-- ## What an effect leaves

module _ (e : Effect) (stands : Fact → Bool) (f : Fact) where
  -- it stood and did not fall, or it came
  pub left_cases : T (left e stands f) → (T (stands f) × ¬ T (e.falls f)) ⊎ T (among f e.comes)
  left_cases t = go (either _ _ t)
    where
      go : T (stands f && not (e.falls f)) ⊎ T (among f e.comes) → (T (stands f) × ¬ T (e.falls f)) ⊎ T (among f e.comes)
      go (inl s) = let p = parts _ _ s in inl (p.0, T_not (e.falls f) p.1)
      go (inr c) = inr c

  pub left_stays : T (stands f) → ¬ T (e.falls f) → T (left e stands f)
  left_stays s n = or_left _ _ (joined _ _ s (not_T (e.falls f) n))

  pub left_comes : T (among f e.comes) → T (left e stands f)
  left_comes c = or_right _ _ c
