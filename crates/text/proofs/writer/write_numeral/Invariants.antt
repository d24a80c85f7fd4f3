use Rattle.text.proofs.Writings.{Sofar}
use Rattle.text.proofs.writer.write_numeral.Given as goal

abbrev pub invariant-loop-i : goal.invariant-loop-i
invariant-loop-i l = Sofar l.initial.buffer l.at l.end l.n l.buffer l.i l.left
