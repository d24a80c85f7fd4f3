use Rattle.flows.proofs.Growth.{flows_go_on}
use Rattle.flows.proofs.rules.passing_all.Goals as goal

pub returns : goal.returns
returns c tables = flows_go_on tables c.args.relations.now c.go_on.new.self c.go_on.result c.go_on.ensures
