-- Writes one by one, as the effect of a request.
use Rattle.std.proofs.Common.{◌≡◌, ℕ, Bool, false, ◌||◌, List, [], ◌∷◌, sym, ap, ◌∙◌, subst, arith}
use mathlib.Core.Path.{fun_ext}
use Rattle.model.specs.declared.fact.Fact.{Fact}
use Rattle.model.specs.declared.request.Kind.{Kind}
use Rattle.model.specs.declared.request.Request.{Request}
use Rattle.model.specs.Records.{State, among}
use Rattle.model.specs.Effects.{Effect, effect, apply, ends, gone}
use Rattle.block.specs.Writing.{adding, removing, forgetting}

-- ## Facts that come, fall, or go with an item

-- the state with these facts
abbrev told : State → (Fact → Bool) → State
told S facts = record { cards = S.cards; program = S.program; parent = S.parent; stands = facts }

retold : (S : State) {F G : Fact → Bool} → ((f : Fact) → F f ≡ G f) → told S F ≡ told S G
retold S e = λ i. record { cards = S.cards; program = S.program; parent = S.parent; stands = fun_ext e i }

abbrev adds : List Fact → State → State
adds [] S = S
adds (f ∷ fs) S = adds fs (adding f S)

added : (fs : List Fact) (S : State) → adds fs S ≡ told S (λ f. S.stands f || among f fs)
added [] S = retold S (λ f. grind arith)
added (g ∷ fs) S = added fs (adding g S) ∙ retold S (λ f. grind arith)

-- what is written
abbrev writes : Effect → State → State
writes E S = record { cards = E.written S.cards; program = E.programs S.program; parent = E.parents S.parent; stands = S.stands }

-- ## Writes that do what a request of the kind does

module _ (q : Request) (S : State) {S' : State} {k shape : Kind} (kind : k ≡ shape) where
  after : S' ≡ apply (effect q shape) S → S' ≡ apply (effect q k) S
  after a = subst (λ (j : Kind). S' ≡ apply (effect q j) S) (sym kind) a

  -- nothing falls
  pub comes : ((f : Fact) → (effect q shape).falls f ≡ false) → S' ≡ adds (effect q shape).comes (writes (effect q shape) S) → S' ≡ apply (effect q k) S
  comes none a =
      let W = writes (effect q shape) S in
      after (a ∙ (added (effect q shape).comes W ∙ retold W (λ f. grind (arith, none f))))

  -- one fact falls
  pub falls : (f : Fact) → effect q shape ≡ ends f → S' ≡ removing f S → S' ≡ apply (effect q k) S
  falls f e a = after (a ∙ (retold S (λ g. grind arith) ∙ ap (λ (E : Effect). apply E S) (sym e)))

  -- an item goes
  pub goes : (i : ℕ) → effect q shape ≡ gone i → S' ≡ forgetting i S → S' ≡ apply (effect q k) S
  goes i e a = after (a ∙ (retold (forgetting i S) (λ f. grind arith) ∙ ap (λ (E : Effect). apply E S) (sym e)))
