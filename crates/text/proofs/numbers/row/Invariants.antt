use Rattle.text.proofs.Rows.{Sofar}
use Rattle.std.proofs.Common.{◌-◌}
use Rattle.text.proofs.numbers.row.Given as goal

abbrev pub invariant-loop-slot : goal.invariant-loop-slot
invariant-loop-slot g l = Sofar l.list l.left l.count (l.count - 1) l.slot-index l.slot-items
