use Rattle.sets.specs.Chains.{Through}
use Rattle.sets.proofs.Steps.{none, more, all}
use Rattle.sets.proofs.Chaining.{chains}
use Rattle.sets.proofs.relation.Relation.go_on.Goals as goal

pub loop-b-init : goal.loop-b-init
loop-b-init g c = none (chains g.row.N g.row.W) c.args.self.now (λ k r. Through k r)

pub loop-b-preserved : goal.loop-b-preserved
loop-b-preserved g c = more (chains g.row.N g.row.W) (λ k r. Through k r) c.loop-b.b c.loop-b.invariant c.lead_through-grew.ensures

pub returns : goal.returns
returns g c = all (chains g.row.N g.row.W) (λ k r. Through k r) g.row.N c.loop-b.b c.loop-b-test.false c.loop-b.invariant
