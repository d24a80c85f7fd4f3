-- Lists of requests, answered in turn.
use Rattle.std.specs.Prelude.{◌≡◌, ◌<◌, ◌≤◌, true, false, List, [], ◌∷◌, length, Some, Ok, Err}
use Rattle.policy.specs.Order.{Order}
use Rattle.policy.specs.Rule.{Rule}
use Rattle.model.specs.Answers.{Answer}
use Rattle.model.specs.declared.answer.Refusal.TheVariants as refusal
use Rattle.model.specs.declared.request.Request.{Request}
use Rattle.block.specs.declared.block.Block.{Block}
use Rattle.block.specs.declared.records.Records.{Records}
use Rattle.block.specs.Lent.{started}
use Rattle.requests.specs.Answered.{Answered}
use Rattle.monitor.specs.declared.record.Record.{Record}

-- the requests and the answers of records
abbrev pub requests : List Record → List Request
requests [] = []
requests (r ∷ rs) = r.request ∷ requests rs

abbrev pub replies : List Record → List Answer
replies [] = []
replies (r ∷ rs) = r.answer ∷ replies rs

-- requests answered in turn, each at the records that those before it left
pub data Turns (o : Order) (h : Rule) : Records → List Request → List Answer → Records → Type 0 where
  none : {b : Records} → Turns o h b [] [] b
  next : {b b₁ b₂ : Records} {q : Request} {a : Answer} {qs : List Request} {ans : List Answer} → Answered o h b q a b₁ → Turns o h b₁ qs ans b₂ → Turns o h b (q ∷ qs) (a ∷ ans) b₂

-- the requests of the records stay, and their places hold the answers
pub record InTurn (o : Order) (h : Rule) (b : Records) (rs rs' : List Record) (b' : Records) : Type 0 where
  pub stays : requests rs' ≡ requests rs
  pub turns : Turns o h b (requests rs) (replies rs') b'

-- a list at the block b, and the records and the block after it
pub data Listed (o : Order) (h : Rule) (b : Block) (rs : List Record) : Answer → List Record → Block → Type 0 where
  blank : started b ≡ false → Listed o h b rs (Err refusal.Blank) rs b
  too_long : started b ≡ true → 1024 < length rs → Listed o h b rs (Err refusal.ListTooLong) rs b
  answered : {rs' : List Record} {r r' : Records} {b' : Block} → b.records ≡ Some r → b'.records ≡ Some r' → length rs ≤ 1024 → InTurn o h r rs rs' r' → Listed o h b rs (Ok tt) rs' b'

-- what an accepted list asked, and what it was told; a refused one asked nothing
abbrev pub asked : Answer → List Record → List Request
asked (Ok _) rs = requests rs
asked (Err _) rs = []

abbrev pub told : Answer → List Record → List Answer
told (Ok _) rs = replies rs
told (Err _) rs = []
