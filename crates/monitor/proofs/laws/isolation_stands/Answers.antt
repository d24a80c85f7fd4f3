use Rattle.monitor.proofs.Lawful.{laws_of}
use Rattle.monitor.proofs.laws.isolation_stands.Goals as goal

pub returns : goal.returns
returns g c =
    let o = g.O.LevelOrder.meaning c.args.order.now in
    let h = g.R.HouseRule.answers c.args.rule.now in
    λ bytes qs ans b H. (laws_of o h (g.met.O.LevelOrder.lawful c.args.order.now) bytes qs ans b H).isolation
