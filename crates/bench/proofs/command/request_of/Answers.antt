use Rattle.std.proofs.Common.{subst}
use Rattle.text.specs.Requests.{Request}
use Rattle.text.proofs.Lists.{is_listed}
use Rattle.bench.proofs.command.request_of.Goals as goal

pub returns-in_err-request_numbers : goal.returns-in_err-request_numbers
returns-in_err-request_numbers c = rw c.from_residual.ensures (λ q said. c.in_err-request_numbers.ensures _ said)

pub returns : goal.returns
returns c = let h = c.in_ok-request_numbers.ensures in rw c.from.ensures (subst (Request c.args.line.now) (is_listed 8 _ h.long) h)
