use Rattle.model.proofs.Outcome.{one_outcome}
use Rattle.model.proofs.laws.one_outcome_stands.Goals as goal

pub returns : goal.returns
returns g c = one_outcome (g.O.LevelOrder.meaning c.args.o.now) (g.R.HouseRule.answers c.args.r.now)
