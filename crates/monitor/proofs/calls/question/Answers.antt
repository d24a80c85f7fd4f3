use Rattle.monitor.proofs.Lawful.{after_look}
use Rattle.monitor.proofs.calls.question.Goals as goal

pub returns : goal.returns
returns g c =
    let o = g.O.LevelOrder.meaning c.args.order.now in
    let law = g.met.O.LevelOrder.lawful c.args.order.now in
    record { outcome = c.ask.ensures; laws = λ h. after_look o h law }
