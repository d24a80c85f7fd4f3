use Rattle.start.proofs.Fitting.{begins_settled, begins_sound}
use Rattle.start.proofs.laws.start_is_sound.Goals as goal

pub returns : goal.returns
returns g c = λ bytes S b. (begins_settled b, begins_sound b)
