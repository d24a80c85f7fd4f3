use Rattle.std.proofs.Common.{◌≡◌, ◌++◌, drop, vec_items}
use Rattle.monitor.specs.Lists.{requests, replies}
use Rattle.model.specs.Laws.{kept}
use Rattle.bench.proofs.bench.Bench.keep_each.Given as goal

abbrev pub invariant-loop-record : goal.invariant-loop-record
invariant-loop-record l =
    (l.self.block ≡ l.initial.self.block)
    × (vec_items l.self.given ++ kept (requests (drop l.record-index l.records)) (replies (drop l.record-index l.records)) ≡ vec_items l.initial.self.given ++ kept (requests l.records) (replies l.records))
