use Rattle.flows.specs.Rules.{Owner}
use Rattle.flows.proofs.Steps.{sessions_none, sessions_more, sessions_all}
use Rattle.flows.proofs.control.owners.Goals as goal

pub loop-s-init : goal.loop-s-init
loop-s-init c = sessions_none c.args.tables.now c.args.relations.now (λ k. Owner k c.args.t)

pub loop-s-preserved : goal.loop-s-preserved
loop-s-preserved c = sessions_more c.args.tables.now (λ k. Owner k c.args.t) c.loop-s.s c.loop-s.invariant c.owner-grew.ensures

pub returns : goal.returns
returns c = sessions_all c.args.tables.now (λ k. Owner k c.args.t) c.loop-s.s c.loop-s-test.false c.loop-s.invariant
