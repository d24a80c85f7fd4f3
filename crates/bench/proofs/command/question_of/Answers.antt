use Rattle.std.proofs.Common.{codes, subst}
use Rattle.text.specs.Requests.{Keyed}
use Rattle.text.proofs.Lists.{is_listed}
use Rattle.bench.proofs.command.question_of.Goals as goal

pub returns-in_err-numbers_of : goal.returns-in_err-numbers_of
returns-in_err-numbers_of c = rw c.from_residual.ensures (λ q said. c.in_err-numbers_of.ensures _ said)

pub returns : goal.returns
returns c = let h = c.in_ok-numbers_of.ensures in rw c.from.ensures (subst (Keyed (codes "question=") 4 c.args.line.now) (is_listed 4 _ h.long) h)
