use Rattle.std.proofs.Common.{◌<◌, ◌≤◌, length, is_some, refl, ap, arith}
use Rattle.std.proofs.lemmas.Bool.Decides.{nat_tests}
use Rattle.std.proofs.lemmas.Result.{err_from_is_err_and}
use Rattle.monitor.specs.Lists.{blank, too_long, answered}
use Rattle.monitor.proofs.listing.answer_list.Goals as goal

pub returns-in_default : goal.returns-in_default
returns-in_default g c = blank (ap is_some c.in_default.is)

pub returns-in_err-need : goal.returns-in_err-need
returns-in_err-need g c =
    let p = err_from_is_err_and c.from_residual.result c.from_residual.ensures.1 in
    let test = c.in_err-need.ensures.0 in
    let long : 1024 < length c.args.records.now = grind (arith, nat_tests) in
    rw (p.1, p.2, c.in_err-need.ensures.1, ← c.in-Some.is) (too_long (ap is_some c.in-Some.is) long)

pub returns : goal.returns
returns g c =
    let test = c.in_ok-need.ensures in
    let short : length c.args.records.now ≤ 1024 = grind (arith, nat_tests) in
    answered c.in-Some.is refl short c.answer_each.ensures
