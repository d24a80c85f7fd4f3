use Rattle.flows.proofs.Growth.{control_goes_on}
use Rattle.flows.proofs.rules.onward_all.Goals as goal

pub returns : goal.returns
returns c tables = control_goes_on tables c.args.relations.now c.go_on.new.self c.go_on.result c.go_on.ensures
