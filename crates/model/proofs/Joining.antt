-- Runs after one another.
use Rattle.std.proofs.Common.{List, [], ◌∷◌, ◌++◌}
use Rattle.policy.specs.Order.{Order}
use Rattle.policy.specs.Rule.{Rule}
use Rattle.model.specs.declared.request.Request.{Request}
use Rattle.model.specs.Answers.{Answer}
use Rattle.model.specs.Records.{State}
use Rattle.model.specs.Runs.{Step, Run, stop, step}

module _ (o : Order) (h : Rule) where
  pub one : {S S' : State} {q : Request} {a : Answer} → Step o h S q a S' → Run o h S (q ∷ []) (a ∷ []) S'
  one s = step s stop

  pub join : {S S₁ S₂ : State} {qs rs : List Request} {ans bs : List Answer} → Run o h S qs ans S₁ → Run o h S₁ rs bs S₂ → Run o h S (qs ++ rs) (ans ++ bs) S₂
  join stop r = r
  join (step s q) r = step s (join q r)
