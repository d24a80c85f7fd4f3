use Rattle.std.proofs.Common.{get_or, ap, arith}
use Rattle.text.proofs.Requests.{one_keyed}
use Rattle.bench.proofs.command.buffer_of.Goals as goal

pub returns-then-n-gt-LONGEST_BUFFER : goal.returns-then-n-gt-LONGEST_BUFFER
returns-then-n-gt-LONGEST_BUFFER c = λ n said. omega (arith, said.1, ap (λ ns. get_or ns 0 0) (one_keyed said.0 c.in_ok-n.ensures))
