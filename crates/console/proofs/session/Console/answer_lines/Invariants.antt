use Rattle.std.proofs.Common.{length}
use Rattle.console.proofs.session.Console.answer_lines.Given as goal

abbrev pub decreases-loop-line : goal.decreases-loop-line
decreases-loop-line l = length l.left
