use Rattle.std.proofs.Common.{subst}
use Rattle.text.specs.Requests.{Keyed}
use Rattle.text.proofs.Lists.{is_listed}
use Rattle.bench.proofs.command.count_of.Goals as goal

pub returns-in_err-n : goal.returns-in_err-n
returns-in_err-n c = rw c.from_residual.ensures (λ n said. c.in_err-n.ensures _ said)

pub returns : goal.returns
returns c = let h = c.in_ok-n.ensures in subst (Keyed c.args.key.now 1 c.args.line.now) (is_listed 1 _ h.long) h
