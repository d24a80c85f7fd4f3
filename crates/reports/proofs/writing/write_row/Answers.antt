use Rattle.std.proofs.Common.{arith}
use Rattle.block.specs.Reading.{state}
use Rattle.reports.specs.Report.{pair}
use Rattle.reports.proofs.Lines.{length_within, wrote_first, wrote_more}
use Rattle.reports.proofs.writing.write_row.Goals as goal

pub loop-t-init : goal.loop-t-init
loop-t-init c = wrote_first (pair (state c.args.records.now) c.args.s) c.args.buffer.now c.args.at

pub write_pair-end-requires : goal.write_pair-end-requires
write_pair-end-requires c =
    omega (arith, c.requires, c.loop-t.invariant.place, length_within (pair (state c.args.records.now) c.args.s) 63 c.loop-t.t c.loop-t.auto.t (omega arith))

pub loop-t-preserved : goal.loop-t-preserved
loop-t-preserved c =
    wrote_more (pair (state c.args.records.now) c.args.s) c.loop-t.t c.loop-t.auto.t (omega (arith, c.requires)) c.loop-t.invariant c.write_pair-end.ensures
