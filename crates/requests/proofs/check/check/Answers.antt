use Rattle.std.proofs.Common.{arith}
use Rattle.std.proofs.lemmas.Result.{err_from_is_err_and}
use Rattle.block.specs.Reading.{state}
use Rattle.requests.proofs.Joining.{fails_opening}
use Rattle.requests.proofs.check.check.Goals as goal

pub returns-in_err-opening : goal.returns-in_err-opening
returns-in_err-opening g c =
    let exit = err_from_is_err_and c.from_residual-in_err-opening.result c.from_residual-in_err-opening.ensures.1 in
    rw (exit.1, exit.2) (fails_opening (g.O.LevelOrder.meaning c.args.order.now) (g.R.HouseRule.answers c.args.rule.now) (state c.args.records.now) c.args.q.now c.in_ok-kind.kind _ (grind arith) c.in_err-opening.ensures)
