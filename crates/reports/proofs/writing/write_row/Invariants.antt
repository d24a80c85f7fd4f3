use Rattle.block.specs.Reading.{state}
use Rattle.text.specs.Written.{Wrote}
use Rattle.reports.specs.Report.{pair}
use Rattle.reports.proofs.Lines.{below}
use Rattle.reports.proofs.writing.write_row.Given as goal

abbrev pub invariant-loop-t : goal.invariant-loop-t
invariant-loop-t l = Wrote l.initial.buffer l.at l.buffer l.end (below (pair (state l.records) l.s) l.t)
