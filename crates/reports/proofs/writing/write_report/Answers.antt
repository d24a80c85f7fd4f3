use Rattle.std.proofs.Common.{arith}
use Rattle.block.specs.Reading.{state}
use Rattle.reports.specs.Report.{row}
use Rattle.reports.proofs.Lines.{length_within, wrote_first, wrote_more}
use Rattle.reports.proofs.writing.write_report.Goals as goal

pub loop-s-init : goal.loop-s-init
loop-s-init c = wrote_first (row (state c.args.records.now)) c.args.buffer.now 0

pub write_row-end-requires : goal.write_row-end-requires
write_row-end-requires c =
    omega (arith, c.requires, c.loop-s.invariant.place, length_within (row (state c.args.records.now)) 63 c.loop-s.s c.loop-s.auto.s (omega arith))

pub loop-s-preserved : goal.loop-s-preserved
loop-s-preserved c = wrote_more (row (state c.args.records.now)) c.loop-s.s c.loop-s.auto.s (omega arith) c.loop-s.invariant c.write_row-end.ensures
