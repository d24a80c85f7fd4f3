use Rattle.block.specs.Reading.{state}
use Rattle.text.specs.Written.{Wrote}
use Rattle.reports.specs.Report.{row}
use Rattle.reports.proofs.Lines.{below}
use Rattle.reports.proofs.writing.write_report.Given as goal

abbrev pub invariant-loop-s : goal.invariant-loop-s
invariant-loop-s l = Wrote l.initial.buffer 0 l.buffer l.end (below (row (state l.records)) l.s)
