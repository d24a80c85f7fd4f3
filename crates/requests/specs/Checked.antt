-- What a check finds of a request.
use Rattle.std.specs.Prelude.{◌≡◌, List, Some, Ok, Err, Result}
use Rattle.policy.specs.Order.{Order}
use Rattle.policy.specs.Rule.{Rule}
use Rattle.model.specs.declared.answer.Refusal.{Refusal}
use Rattle.model.specs.declared.request.Kind.{Kind}
use Rattle.model.specs.declared.request.Request.{Request}
use Rattle.model.specs.Form.{kind_of}
use Rattle.model.specs.Records.{State}
use Rattle.model.specs.Needs.{Need, Met, Fails, needs, opening as opening_of, further as further_of}
use Rattle.block.specs.Reading.{state}
use Rattle.requests.specs.declared.check.Asking.{Asking}

-- what a request needs, on what it is tried
module _ {O R : Type 0} (meaning : O → Order) (answers : R → Rule) (a : Asking O R) where
  -- first, whatever its kind
  abbrev pub opening : Kind → List Need
  opening k = opening_of (meaning a.order.now) (answers a.rule.now) (state a.records.now) a.q.now k

  -- then for its own kind
  abbrev pub further : Kind → List Need
  further k = further_of (meaning a.order.now) (answers a.rule.now) (state a.records.now) a.q.now k

-- the kind of a request whose needs are all met, or else the refusal of the first that fails
abbrev pub Checked : Order → Rule → State → Request → Result Kind Refusal → Type 0
Checked o h S q (Ok k) = (kind_of q.k ≡ Some k) × Met (needs o h S q (Some k))
Checked o h S q (Err refusal) = Fails (needs o h S q (kind_of q.k)) refusal
