use Rattle.monitor.proofs.Lawful.{after_request}
use Rattle.monitor.proofs.calls.request.Goals as goal

pub returns : goal.returns
returns g c =
    let o = g.O.LevelOrder.meaning c.args.order.now in
    let h = g.R.HouseRule.answers c.args.rule.now in
    let law = g.met.O.LevelOrder.lawful c.args.order.now in
    record { outcome = c.answer_one.ensures; laws = after_request o h law c.answer_one.ensures }
