use Rattle.std.proofs.Common.{length}
use Rattle.text.specs.Rest.{rest}
use Rattle.text.proofs.Firsts.{Sofar}
use Rattle.text.proofs.reading.first_reading.Given as goal

abbrev pub invariant-loop-last : goal.invariant-loop-last
invariant-loop-last l = Sofar l.text (rest l.reader) l.reader.lines l.last

abbrev pub decreases-loop-last : goal.decreases-loop-last
decreases-loop-last l = length (rest l.reader)
