use Rattle.sets.proofs.Steps.{none, more, all}
use Rattle.flows.specs.Spread.{Has}
use Rattle.flows.specs.Rules.{Outward}
use Rattle.flows.proofs.Steps.{rules}
use Rattle.flows.proofs.acting.outward_all.Goals as goal

pub loop-t-init : goal.loop-t-init
loop-t-init c tables u = none (rules tables) c.args.relations.now (λ k x. Outward c.args.s k (Has tables x))

pub loop-t-preserved : goal.loop-t-preserved
loop-t-preserved c tables u = more (rules tables) (λ k x. Outward c.args.s k (Has tables x)) c.loop-t.t (c.loop-t.invariant tables u) (c.outward-grew.ensures tables u)

pub returns : goal.returns
returns c tables u = all (rules tables) (λ k x. Outward c.args.s k (Has tables x)) 64 c.loop-t.t c.loop-t-test.false (c.loop-t.invariant tables u)
