use Rattle.monitor.proofs.Lawful.{from_start, after_start}
use Rattle.monitor.proofs.calls.start.Goals as goal

pub returns : goal.returns
returns g c =
    let o = g.O.LevelOrder.meaning c.args.order.now in
    let h = g.R.HouseRule.answers c.args.rule.now in
    let law = g.met.O.LevelOrder.lawful c.args.order.now in
    record { outcome = c.start.ensures; begins = from_start o h law c.start.ensures; laws = after_start o h law c.start.ensures }
