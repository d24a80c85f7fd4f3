use Rattle.std.proofs.Common.{sym, arith}
use Rattle.block.specs.Reading.{state}
use Rattle.reports.specs.Report.{row}
use Rattle.reports.proofs.Lines.{length_none, length_more}
use Rattle.reports.proofs.measuring.report_len.Goals as goal

pub loop-s-init : goal.loop-s-init
loop-s-init c = (sym (length_none (row (state c.args.records.now))), omega arith)

pub loop-s-preserved : goal.loop-s-preserved
loop-s-preserved c =
    (omega (arith, length_more (row (state c.args.records.now)) c.loop-s.s c.loop-s.auto.s), omega arith)
