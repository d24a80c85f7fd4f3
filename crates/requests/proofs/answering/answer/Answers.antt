use Rattle.std.proofs.Common.{subst}
use Rattle.std.proofs.lemmas.Result.{err_from_is_err_and}
use Rattle.model.specs.Records.{State}
use Rattle.model.specs.Flows.{Settles}
use Rattle.block.specs.Reading.{state}
use Rattle.requests.specs.Answered.{refused, accepted}
use Rattle.requests.proofs.answering.answer.Goals as goal

pub returns-in_err-kind : goal.returns-in_err-kind
returns-in_err-kind g c =
    let p = err_from_is_err_and c.from_residual.result c.from_residual.ensures.1 in rw (p.1, p.2) (refused c.in_err-kind.ensures)

pub returns : goal.returns
returns g c =
    let after = λ (given : State). Settles given (state c.follow.new.records) in
    accepted c.in_ok-kind.ensures.0 c.in_ok-kind.ensures.1 (subst after c.carry_out.ensures c.follow.ensures)
