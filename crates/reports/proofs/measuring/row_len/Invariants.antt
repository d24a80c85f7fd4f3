use Rattle.std.proofs.Common.{◌≡◌, ◌*◌, ◌≤◌, length}
use Rattle.block.specs.Reading.{state}
use Rattle.reports.specs.Report.{pair}
use Rattle.reports.proofs.Lines.{below}
use Rattle.reports.proofs.measuring.row_len.Given as goal

abbrev pub invariant-loop-t : goal.invariant-loop-t
invariant-loop-t l = (l.len ≡ length (below (pair (state l.records) l.s) l.t)) × (l.len ≤ 30 * l.t)
