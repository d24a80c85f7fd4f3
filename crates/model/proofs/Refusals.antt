-- Needs by their refusals.
use Rattle.std.proofs.Common.{◌≡◌, Bool, true, false, cond, eqb, List, [], ◌∷◌, sym, ◌∙◌, inl, inr}
use Rattle.model.specs.declared.answer.Refusal.{Refusal}
use Rattle.model.specs.Answers.{refusal_number}
use Rattle.model.specs.Needs.{Need, Met, Fails}

-- the first need with the refusal a
abbrev pub The : List Need → Refusal → Type 0
The [] a = Unit {0}
The (n ∷ ns) a = cond (eqb (refusal_number n.0) (refusal_number a)) n.1 (The ns a)

choose : (b : Bool) {A B : Type 0} → A → B → cond b A B
choose true a c = a
choose false a c = c

pub the : (ns : List Need) (a : Refusal) → Met ns → The ns a
the [] a m = tt
the (n ∷ ns) a m = choose (eqb (refusal_number n.0) (refusal_number a)) m.0 (the ns a m.1)

-- no need fails where all are met
pub met_fails : (ns : List Need) (a : Refusal) → Met ns → Fails ns a → ⊥
met_fails [] a m f = f
met_fails (n ∷ ns) a m (inl f) = f.0 m.0
met_fails (n ∷ ns) a m (inr f) = met_fails ns a m.1 f.1

-- one need is the first that fails
pub fails_once : (ns : List Need) (a b : Refusal) → Fails ns a → Fails ns b → a ≡ b
fails_once [] a b f g = absurd f
fails_once (n ∷ ns) a b (inl f) (inl g) = f.1 ∙ sym g.1
fails_once (n ∷ ns) a b (inl f) (inr g) = absurd (f.0 g.0)
fails_once (n ∷ ns) a b (inr f) (inl g) = absurd (g.0 f.0)
fails_once (n ∷ ns) a b (inr f) (inr g) = fails_once ns a b f.1 g.1
