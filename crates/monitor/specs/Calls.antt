-- The outcome of each call: its answer, and the block after it.
use Rattle.std.specs.Prelude.{◌≡◌, false, Some, Err}
use Rattle.policy.specs.Order.{Order}
use Rattle.policy.specs.Rule.{Rule}
use Rattle.model.specs.Answers.{Answer}
use Rattle.model.specs.declared.answer.Refusal.TheVariants as refusal
use Rattle.model.specs.declared.request.Request.{Request}
use Rattle.block.specs.declared.block.Block.{Block}
use Rattle.block.specs.declared.records.Records.{Records}
use Rattle.block.specs.Lent.{started}
use Rattle.requests.specs.Answered.{Answered}

-- a request at the block b: a blank block refuses it and stays as it was
pub data Requested (o : Order) (h : Rule) (b : Block) (q : Request) : Answer → Block → Type 0 where
  blank : started b ≡ false → Requested o h b q (Err refusal.Blank) b
  answered : {a : Answer} {r r' : Records} {b' : Block} → b.records ≡ Some r → b'.records ≡ Some r' → Answered o h r q a r' → Requested o h b q a b'
