use Rattle.model.proofs.Isolating.{isolation}
use Rattle.model.proofs.laws.isolation_stands.Goals as goal

pub returns : goal.returns
returns g c =
    isolation (g.O.LevelOrder.meaning c.args.o.now) (g.met.O.LevelOrder.lawful c.args.o.now) (g.R.HouseRule.answers c.args.r.now)
