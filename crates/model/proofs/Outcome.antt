-- The rules leave one outcome.
use Rattle.std.proofs.Common.{◌≡◌, ℕ, Some, Err, Option, refl, ap, subst}
use Rattle.policy.specs.Order.{Order}
use Rattle.policy.specs.Rule.{Rule}
use Rattle.model.specs.declared.answer.Refusal.{Refusal}
use Rattle.model.specs.declared.request.Request.{Request}
use Rattle.model.specs.declared.request.Kind.{Kind}
use Rattle.model.specs.Answers.{Answer}
use Rattle.model.specs.Records.{State}
use Rattle.model.specs.Form.{kind_of}
use Rattle.model.specs.Needs.{needs, Met, Fails}
use Rattle.model.specs.Runs.{Becomes, Step, accepted, refused}
use Rattle.model.specs.Laws.{OneOutcome}
use Rattle.model.proofs.Refusals.{met_fails, fails_once}
use Rattle.model.proofs.Following.{settles_once}

-- a number names one kind
pub one_kind : (n : ℕ) {k j : Kind} → kind_of n ≡ Some k → kind_of n ≡ Some j → j ≡ k
one_kind n e d = cc

module _ (o : Order) (h : Rule) (S : State) (q : Request) where
  -- a request whose needs are met is not refused
  pub not_refused : {k : Kind} (a : Refusal) → kind_of q.k ≡ Some k → Met (needs o h S q (Some k)) → Fails (needs o h S q (kind_of q.k)) a → ⊥
  not_refused {k} a e m f = met_fails (needs o h S q (Some k)) a m (subst (λ (w : Option Kind). Fails (needs o h S q w) a) e f)

  once : {a b : Answer} {S₁ S₂ : State} → Step o h S q a S₁ → Step o h S q b S₂ → (a ≡ b) × (S₁ ≡ S₂)
  once (accepted e m b) (accepted {S'} d n c) = (refl, settles_once b (subst (λ (k : Kind). Becomes S q k S') (one_kind q.k e d) c))
  once (accepted e m b) (refused {a} f) = absurd (not_refused a e m f)
  once (refused {a} f) (accepted e m b) = absurd (not_refused a e m f)
  once (refused {a = a₁} f) (refused {a = a₂} g) = (ap Err (fails_once (needs o h S q (kind_of q.k)) a₁ a₂ f g), refl)

pub one_outcome : (o : Order) (h : Rule) → OneOutcome o h
one_outcome o h S S₁ S₂ q a b s t = once o h S q s t
