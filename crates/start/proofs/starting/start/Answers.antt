use Rattle.std.proofs.Common.{sym, refl}
use Rattle.std.proofs.lemmas.Result.{err_from_is_err_and}
use Rattle.start.specs.Starts.{again, refused, accepted}
use Rattle.start.proofs.starting.start.Goals as goal

pub returns-then-is_some : goal.returns-then-is_some
returns-then-is_some g c = rw c.into.ensures (again (sym c.if-is_some.ensures))

pub returns-in_err-read : goal.returns-in_err-read
returns-in_err-read g c =
    let p = err_from_is_err_and c.from_residual.result c.from_residual.ensures.1 in
    rw (p.1, p.2) (refused (sym c.if-is_some.ensures) c.in_err-read.ensures)

pub returns : goal.returns
returns g c = accepted (sym c.if-is_some.ensures) refl c.in_ok-read.ensures
