use Rattle.std.proofs.Common.{is_some, refl, ap}
use Rattle.monitor.specs.Calls.{blank, answered}
use Rattle.monitor.proofs.calls.answer_one.Goals as goal

pub returns-in_default : goal.returns-in_default
returns-in_default g c = blank (ap is_some c.in_default.is)

pub returns : goal.returns
returns g c = answered c.in-Some.is refl c.answer.ensures
