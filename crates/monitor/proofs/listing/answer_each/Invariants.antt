use Rattle.std.proofs.Common.{◌≡◌, take}
use Rattle.monitor.specs.Lists.{requests, replies, Turns}
use Rattle.monitor.proofs.listing.answer_each.Given as goal

abbrev pub invariant-loop-entry : goal.invariant-loop-entry
invariant-loop-entry g l =
    (requests l.records ≡ requests l.initial.records) × Turns (g.O.LevelOrder.meaning l.order) (g.R.HouseRule.answers l.rule) l.initial.held (requests (take l.entry-index l.records)) (replies (take l.entry-index l.records)) l.held
