-- Requests answered in turn.
use Rattle.std.specs.Prelude.{◌≡◌, List, [], ◌∷◌, Some, Ok, Err}
use Rattle.policy.specs.Order.{Order}
use Rattle.policy.specs.Rule.{Rule}
use Rattle.model.specs.declared.answer.Refusal.{Refusal}
use Rattle.model.specs.declared.request.Request.{Request}
use Rattle.model.specs.declared.request.Kind.{Kind}
use Rattle.model.specs.Answers.{Answer}
use Rattle.model.specs.Records.{State}
use Rattle.model.specs.Form.{kind_of}
use Rattle.model.specs.Needs.{needs, Met, Fails}
use Rattle.model.specs.Effects.{effect, apply}
use Rattle.model.specs.Flows.{Settles}

-- an accepted request of the kind k turns S into S': its effect, and all that follows
abbrev pub Becomes : State → Request → Kind → State → Type 0
Becomes S q k S' = Settles (apply (effect q k) S) S'

-- the answer to the request q at S, and the state after it
pub data Step (o : Order) (h : Rule) (S : State) (q : Request) : Answer → State → Type 0 where
  accepted : {k : Kind} {S' : State} → kind_of q.k ≡ Some k → Met (needs o h S q (Some k)) → Becomes S q k S' → Step o h S q (Ok tt) S'
  refused : {a : Refusal} → Fails (needs o h S q (kind_of q.k)) a → Step o h S q (Err a) S

-- requests in turn, with their answers
pub data Run (o : Order) (h : Rule) : State → List Request → List Answer → State → Type 0 where
  stop : {S : State} → Run o h S [] [] S
  step : {S S₁ S₂ : State} {q : Request} {a : Answer} {qs : List Request} {ans : List Answer} → Step o h S q a S₁ → Run o h S₁ qs ans S₂ → Run o h S (q ∷ qs) (a ∷ ans) S₂
