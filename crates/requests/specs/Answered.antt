-- The answer to a request, and the records after it.
use Rattle.std.specs.Prelude.{◌≡◌, Some, Ok, Err}
use Rattle.policy.specs.Order.{Order}
use Rattle.policy.specs.Rule.{Rule}
use Rattle.model.specs.declared.answer.Refusal.{Refusal}
use Rattle.model.specs.declared.request.Kind.{Kind}
use Rattle.model.specs.declared.request.Request.{Request}
use Rattle.model.specs.Answers.{Answer}
use Rattle.model.specs.Form.{kind_of}
use Rattle.model.specs.Needs.{needs, Met, Fails}
use Rattle.model.specs.Runs.{Becomes}
use Rattle.block.specs.declared.records.Records.{Records}
use Rattle.block.specs.Reading.{state}

-- refused by the first need that fails, and the records as they were; or accepted, and the records with the effect of its kind
-- and all that follows
pub data Answered (o : Order) (h : Rule) (b : Records) (q : Request) : Answer → Records → Type 0 where
  refused : {r : Refusal} → Fails (needs o h (state b) q (kind_of q.k)) r → Answered o h b q (Err r) b
  accepted : {k : Kind} {b' : Records} → kind_of q.k ≡ Some k → Met (needs o h (state b) q (Some k)) → Becomes (state b) q k (state b') → Answered o h b q (Ok tt) b'
