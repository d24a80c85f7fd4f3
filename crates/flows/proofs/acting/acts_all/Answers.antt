use Rattle.model.specs.Flows.{Unguarded}
use Rattle.block.specs.Reading.{cards_of}
use Rattle.flows.specs.Rules.{Acts}
use Rattle.flows.proofs.Steps.{sessions_none, sessions_more, sessions_all}
use Rattle.flows.proofs.acting.acts_all.Goals as goal

pub loop-s-init : goal.loop-s-init
loop-s-init c = sessions_none c.args.tables.now c.args.relations.now (λ k P. Unguarded (cards_of c.args.tables.now) k → Acts k P)

pub loop-s-preserved : goal.loop-s-preserved
loop-s-preserved c = sessions_more c.args.tables.now (λ k P. Unguarded (cards_of c.args.tables.now) k → Acts k P) c.loop-s.s c.loop-s.invariant c.acts-grew.ensures

pub returns : goal.returns
returns c = sessions_all c.args.tables.now (λ k P. Unguarded (cards_of c.args.tables.now) k → Acts k P) c.loop-s.s c.loop-s-test.false c.loop-s.invariant
