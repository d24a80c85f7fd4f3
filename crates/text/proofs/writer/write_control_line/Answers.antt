use Rattle.std.proofs.Common.{append_assoc, arith}
use Rattle.text.proofs.Writings.{wrote_on}
use Rattle.text.proofs.writer.write_control_line.Goals as goal

pub returns : goal.returns
returns c =
    let numbers = wrote_on (omega arith) c.write_bytes-numbers.ensures c.write_numeral-comma.ensures in
    let other = wrote_on (omega arith) (wrote_on (omega arith) numbers c.write_bytes-other.ensures) c.write_numeral-end.ensures in
    wrote_on (omega arith) (rw append_assoc at other) c.write_bytes.ensures
