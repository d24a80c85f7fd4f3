use Rattle.model.proofs.Replaying.{replay}
use Rattle.model.proofs.laws.replay_stands.Goals as goal

pub returns : goal.returns
returns g c = replay (g.O.LevelOrder.meaning c.args.o.now) (g.R.HouseRule.answers c.args.r.now)
