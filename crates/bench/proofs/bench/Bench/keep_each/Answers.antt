use Rattle.std.proofs.Common.{vec_items, ◌∙◌, arith}
use Rattle.bench.proofs.Keeping.{one_more, all_done}
use Rattle.bench.proofs.bench.Bench.keep_each.Goals as goal

pub loop-record-preserved : goal.loop-record-preserved
loop-record-preserved c =
    let kept = c.in_ok-keep.ensures in
    let inv = c.loop-record.invariant in
    (kept.block ∙ inv.0, one_more (vec_items c.loop-record.self.given) c.args.records.now c.loop-record.record-index _ (omega arith) inv.1 kept.given)

pub returns : goal.returns
returns c =
    let inv = c.loop-record.invariant in
    record { block = inv.0; given = all_done (vec_items c.loop-record.self.given) c.args.records.now c.loop-record.record-index (omega arith) inv.1 }
