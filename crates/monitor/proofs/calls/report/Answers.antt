use Rattle.monitor.proofs.Lawful.{after_look}
use Rattle.monitor.proofs.calls.report.Goals as goal

pub returns : goal.returns
returns c = record { outcome = c.report.ensures; laws = λ o h law. after_look o h law }
