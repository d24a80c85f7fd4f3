use Rattle.std.proofs.Common.{sym, arith}
use Rattle.block.specs.Reading.{state}
use Rattle.reports.specs.Report.{pair}
use Rattle.reports.proofs.Lines.{length_none, length_more}
use Rattle.reports.proofs.measuring.row_len.Goals as goal

pub loop-t-init : goal.loop-t-init
loop-t-init c = (sym (length_none (pair (state c.args.records.now) c.args.s)), omega arith)

pub loop-t-preserved : goal.loop-t-preserved
loop-t-preserved c =
    (omega (arith, length_more (pair (state c.args.records.now) c.args.s) c.loop-t.t c.loop-t.auto.t), omega arith)
