-- What a question asks, and when the answer is yes.
use Rattle.std.specs.Prelude.{◌≡◌, ℕ, ◌-◌, Bool, cond, ◌&&◌, T, List, [], ◌∷◌, Some, None, Ok, Err, Option, Result, nat_le, slice_index_or, slice_index}
use Rattle.policy.specs.Order.{Order}
use Rattle.model.specs.declared.answer.Refusal.{Refusal}
use Rattle.model.specs.declared.answer.Refusal.TheVariants as refusal
use Rattle.model.specs.declared.fact.Fact.TheVariants.{Lives, Held, Right, Access, Flow, Control}
use Rattle.model.specs.declared.fact.Mode.{Mode}
use Rattle.model.specs.declared.request.Span.TheVariants as span
use Rattle.model.specs.Records.{State, Stands}
use Rattle.model.specs.Form.{mode_of, role, item, session, idle, admits, suits}
use Rattle.model.specs.Judged.{Tells}
use Rattle.model.specs.Needs.{Need, Met, Fails, Reaches}
use Rattle.block.specs.declared.block.Block.{Block}
use Rattle.block.specs.Lent.{started, block_state}
use Rattle.monitor.specs.declared.topic.Question.{Question}
use Rattle.monitor.specs.declared.topic.Spans.{Spans}
use Rattle.monitor.specs.declared.topic.Topic.{Topic}
use Rattle.monitor.specs.declared.topic.Topic.TheVariants as topic

-- ## Its form

-- the question of four numbers, in their order
abbrev pub question_of : List ℕ → Question
question_of ns = record { q = slice_index ns 0; a = slice_index ns 1; b = slice_index ns 2; m = slice_index ns 3 }

-- the six questions, from 1 on
abbrev pub topics : List Topic
topics = topic.Right ∷ topic.Held ∷ topic.Access ∷ topic.Flow ∷ topic.Control ∷ topic.Reach ∷ []

unfoldable pub topic_numbered : ℕ → Option Topic
topic_numbered q = cond (nat_le 1 q && nat_le q 6) (Some (slice_index_or topics (q - 1) topic.Right)) None

-- the numbers a, b and m
abbrev pub row : Topic → Spans
row topic.Right = record { a = role; b = item; m = span.Right }
row topic.Held = record { a = session; b = role; m = span.Unused }
row topic.Access = record { a = session; b = item; m = span.Access }
row topic.Flow = record { a = item; b = item; m = span.Unused }
row topic.Control = record { a = session; b = session; m = span.Unused }
row topic.Reach = record { a = session; b = item; m = span.Unused }

-- numbers in range, and on a session only right and access 8
abbrev pub ranged : Spans → Question → Bool
ranged w q = admits w.a q.a && (admits w.b q.b && (admits w.m q.m && suits w.m q.b q.m))

-- what a question needs, in the order in which it is tried
abbrev pub needs : Block → Question → Option Topic → List Need
needs b q None = (refusal.Blank, T (started b)) ∷ (refusal.Form, ⊥) ∷ []
needs b q (Some t) =
    (refusal.Blank, T (started b))
    ∷ (refusal.Form, T (idle (row t).m q.m))
    ∷ (refusal.Range, T (ranged (row t) q))
    ∷ []

-- ## Its answer

-- the relation stands between live items
abbrev pub Holds : Order → State → Topic → ℕ → ℕ → Mode → Type 0
Holds o S topic.Right a b m = Stands S (Lives b) × Stands S (Right a b m)
Holds o S topic.Held a b m = Stands S (Lives a) × Stands S (Held a b)
Holds o S topic.Access a b m = Stands S (Lives a) × Stands S (Lives b) × Stands S (Access a b m)
Holds o S topic.Flow a b m = Stands S (Lives a) × Stands S (Lives b) × Stands S (Flow a b)
Holds o S topic.Control a b m = Stands S (Lives a) × Stands S (Lives b) × Stands S (Control a b)
Holds o S topic.Reach a b m = Stands S (Lives a) × Stands S (Lives b) × Reaches o S a b

-- refused by the first need that fails, or else yes exactly if the relation stands
abbrev pub Asked : Order → Block → Question → Result Bool Refusal → Type 0
Asked o b q (Err r) = Fails (needs b q (topic_numbered q.q)) r
Asked o b q (Ok holds) =
    (t : Topic) × (topic_numbered q.q ≡ Some t) × Met (needs b q (Some t)) × Tells holds (Holds o (block_state b) t q.a q.b (mode_of q.m))
