use Rattle.sets.proofs.Steps.{none, more, all}
use Rattle.flows.specs.Spread.{Has}
use Rattle.flows.specs.Rules.{Touch}
use Rattle.flows.proofs.Steps.{rules}
use Rattle.flows.proofs.acting.touch_all.Goals as goal

pub loop-e-init : goal.loop-e-init
loop-e-init c = none (rules c.args.tables.now) c.args.relations.now (λ k x. Touch c.args.s k (Has c.args.tables.now x))

pub loop-e-preserved : goal.loop-e-preserved
loop-e-preserved c =
    more (rules c.args.tables.now) (λ k x. Touch c.args.s k (Has c.args.tables.now x)) c.loop-e.e c.loop-e.invariant c.touch-grew.ensures

pub returns : goal.returns
returns c =
    all (rules c.args.tables.now) (λ k x. Touch c.args.s k (Has c.args.tables.now x)) 256 c.loop-e.e c.loop-e-test.false c.loop-e.invariant
