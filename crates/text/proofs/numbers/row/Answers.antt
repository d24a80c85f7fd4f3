use Rattle.std.proofs.Common.{arith}
use Rattle.text.proofs.Rows.{no_comma, no_number, no_last, more, done}
use Rattle.text.proofs.numbers.row.Goals as goal

pub returns-in_err-field : goal.returns-in_err-field
returns-in_err-field g c = rw c.from_residual.ensures (no_comma (omega arith) c.loop-slot.invariant (omega arith) c.in_err-field.ensures)

pub returns-in_err-slot : goal.returns-in_err-slot
returns-in_err-slot g c =
    rw c.from_residual-in_err-slot.ensures
    (no_number (omega arith) c.loop-slot.invariant (omega arith) c.in_ok-field.ensures c.in_err-slot.ensures)

pub loop-slot-preserved : goal.loop-slot-preserved
loop-slot-preserved g c = more (omega arith) c.loop-slot.invariant (omega arith) c.in_ok-field.ensures c.in_ok-slot.ensures

pub returns-in_err-out : goal.returns-in_err-out
returns-in_err-out g c = rw c.from_residual-in_err-out.ensures (no_last (omega arith) c.loop-slot.invariant (omega arith) c.in_err-out.ensures)

pub returns : goal.returns
returns g c = done (omega arith) c.loop-slot.invariant g.row.N (omega arith) (omega arith) (omega arith) c.in_ok-out.ensures
