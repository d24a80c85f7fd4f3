use Rattle.std.proofs.Common.{subst}
use Rattle.text.specs.Post.{Row}
use Rattle.text.proofs.Bodies.{no_key, says}
use Rattle.text.proofs.reading.entry.Goals as goal

pub returns-in_err-key : goal.returns-in_err-key
returns-in_err-key c = rw c.from_residual-in_err-key.ensures (no_key c.in_ok-name.ensures c.in_err-key.ensures)

pub returns : goal.returns
returns c =
    says c.in_ok-name.ensures c.in_ok-key.ensures
    (subst (λ n. Row c.in_ok-name.list.now n 5 c.in_ok-numbers.numbers) c.count.ensures c.in_ok-numbers.ensures)
