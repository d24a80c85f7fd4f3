-- What was done with a block since its start.
use Rattle.std.specs.Prelude.{ℕ, Bool, List, [], ◌∷◌, ◌++◌, Ok, Err, Result}
use Rattle.policy.specs.Order.{Order}
use Rattle.policy.specs.Rule.{Rule}
use Rattle.model.specs.Answers.{Answer, StartAnswer}
use Rattle.model.specs.declared.answer.Refusal.{Refusal}
use Rattle.model.specs.declared.request.Request.{Request}
use Rattle.block.specs.declared.block.Block.{Block}
use Rattle.start.specs.Starts.{Start}
use Rattle.reports.specs.Report.{Reports}
use Rattle.monitor.specs.declared.record.Record.{Record}
use Rattle.monitor.specs.declared.topic.Question.{Question}
use Rattle.monitor.specs.Calls.{Requested}
use Rattle.monitor.specs.Lists.{requests, replies, Listed}
use Rattle.monitor.specs.Questions.{Asked}

-- The text was accepted, and then came calls, each with the outcome that the rules give, all under one order and one rule.
-- The two lists have the requests that were answered so far, those of lists too, and their answers.
pub data History (o : Order) (h : Rule) (bytes : List ℕ) : List Request → List Answer → Block → Type 0 where
  begun : {b b' : Block} → Start o h b bytes (Ok tt) b' → History o h bytes [] [] b'
  request : {qs : List Request} {ans : List Answer} {b b' : Block} {q : Request} {a : Answer} → History o h bytes qs ans b → Requested o h b q a b' → History o h bytes (qs ++ (q ∷ [])) (ans ++ (a ∷ [])) b'
  list : {qs : List Request} {ans : List Answer} {b b' : Block} {rs rs' : List Record} → History o h bytes qs ans b → Listed o h b rs (Ok tt) rs' b' → History o h bytes (qs ++ requests rs) (ans ++ replies rs') b'
  refused_list : {qs : List Request} {ans : List Answer} {b b' : Block} {rs rs' : List Record} {r : Refusal} → History o h bytes qs ans b → Listed o h b rs (Err r) rs' b' → History o h bytes qs ans b'
  question : {qs : List Request} {ans : List Answer} {b : Block} (q : Question) (r : Result Bool Refusal) → History o h bytes qs ans b → Asked o b q r → History o h bytes qs ans b
  report : {qs : List Request} {ans : List Answer} {b : Block} {buffer after : List ℕ} {r : Result ℕ Refusal} → History o h bytes qs ans b → Reports b buffer r after → History o h bytes qs ans b
  start_again : {qs : List Request} {ans : List Answer} {b b' : Block} {text : List ℕ} {a : StartAnswer} → History o h bytes qs ans b → Start o h b text a b' → History o h bytes qs ans b'
