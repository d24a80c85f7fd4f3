use Rattle.std.proofs.Common.{◌≡◌, ◌*◌, ◌≤◌, length}
use Rattle.block.specs.Reading.{state}
use Rattle.reports.specs.Report.{row}
use Rattle.reports.proofs.Lines.{below}
use Rattle.reports.proofs.measuring.report_len.Given as goal

abbrev pub invariant-loop-s : goal.invariant-loop-s
invariant-loop-s l = (l.len ≡ length (below (row (state l.records)) l.s)) × (l.len ≤ 2000 * l.s)
