use Rattle.start.proofs.Outcome.{start_once}
use Rattle.start.proofs.laws.one_start.Goals as goal

pub returns : goal.returns
returns g c = start_once (g.O.LevelOrder.meaning c.args.o.now) (g.R.HouseRule.answers c.args.r.now)
