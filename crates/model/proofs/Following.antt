-- What follows from facts, and the state with all that follows.
use Rattle.std.proofs.Common.{◌≡◌, ℕ, ◌≢◌, sym, refl, ◌∙◌, subst}
use mathlib.Core.Path.{fun_ext}
use Rattle.model.specs.declared.fact.Fact.{Fact}
use Rattle.model.specs.declared.fact.Fact.TheVariants.{Flow}
use Rattle.model.specs.Records.{Cards, State, Stands}
use Rattle.model.specs.Flows.{Derived, before, itself, owner, onward, writing, reading, passing, by_program, by_key, outward, inward, Settles}
use Rattle.model.specs.Laws.{Settled}
use Rattle.model.proofs.Tests.{alike}

-- the programs p are among the programs r
abbrev pub Extends : (ℕ → ℕ) → (ℕ → ℕ) → Type 0
Extends p r = (t : ℕ) → p t ≢ 0 → r t ≡ p t

-- what follows from facts that follow, follows; and more programs let more follow
pub bind : {C : Cards} {p r : ℕ → ℕ} {A B : Fact → Type 0} {f : Fact} → Extends p r → ((g : Fact) → A g → Derived C r B g) → Derived C p A f → Derived C r B f
bind e k (before b) = k _ b
bind e k (itself s d) = itself s (bind e k d)
bind e k (owner s t d) = owner s t (bind e k d)
bind e k (onward c d) = onward (bind e k c) (bind e k d)
bind e k (writing u c d) = writing u (bind e k c) (bind e k d)
bind e k (reading u c d) = reading u (bind e k c) (bind e k d)
bind e k (passing c d) = passing (bind e k c) (bind e k d)
bind {C} {p} {r} {A} {B} e k (by_program {s} {t} v w n d) =
    by_program v w (λ z. n (sym (e t n) ∙ z)) (subst (λ (i : ℕ). Derived C r B (Flow s i)) (sym (e t n)) (bind e k d))
bind e k (by_key s t l n d) = by_key s t (bind e k l) n (bind e k d)
bind e k (outward u c d) = outward u (bind e k c) (bind e k d)
bind e k (inward u c d) = inward u (bind e k c) (bind e k d)

-- from more facts, more follows
pub more : {C : Cards} {p : ℕ → ℕ} {A B : Fact → Type 0} {f : Fact} → ((g : Fact) → A g → B g) → Derived C p A f → Derived C p B f
more k d = bind (λ t n. refl) (λ g a. before (k g a)) d

module _ {given S : State} (s : Settles given S) where
  -- a state with all that follows is settled
  pub settled : Settled S
  settled f d =
      (s.facts f).1 (bind (λ t n. refl) (λ g h. (s.facts g).0 h) (subst (λ (C : Cards). Derived C given.program (Stands S) f) s.cards (subst (λ (p : ℕ → ℕ). Derived S.cards p (Stands S) f) s.program d)))

  -- and there is one such state
  pub settles_once : {S' : State} → Settles given S' → S ≡ S'
  settles_once {S'} s' =
      λ i. record { cards = (s.cards ∙ sym s'.cards) i; program = (s.program ∙ sym s'.program) i; parent = (s.parent ∙ sym s'.parent) i; stands = facts i }
    where
      facts : S.stands ≡ S'.stands
      facts =
          fun_ext (λ f. alike (S.stands f) (S'.stands f) (λ h. (s'.facts f).1 ((s.facts f).0 h)) (λ h. (s.facts f).1 ((s'.facts f).0 h)))
