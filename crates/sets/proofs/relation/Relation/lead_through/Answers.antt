use Rattle.std.proofs.Common.{sym, ◌∙◌}
use Rattle.sets.specs.Member.{in_set}
use Rattle.sets.specs.Chains.{LeadsOn, Through}
use Rattle.sets.proofs.Steps.{still, none, more, all, clash}
use Rattle.sets.proofs.Chaining.{chains}
use Rattle.sets.proofs.relation.Relation.lead_through.Goals as goal

pub returns-then-is_empty : goal.returns-then-is_empty
returns-then-is_empty g c =
    still (chains g.row.N g.row.W) c.args.self.now (Through c.args.b)
    (λ a _ k _ h. clash (in_set c.row.result.now k) (sym (c.if-is_empty.ensures k)) (c.row.ensures k ∙ h.2))

pub loop-a-init : goal.loop-a-init
loop-a-init g c = none (chains g.row.N g.row.W) c.args.self.now (λ k. LeadsOn k c.args.b)

pub loop-a-preserved : goal.loop-a-preserved
loop-a-preserved g c =
    more (chains g.row.N g.row.W) (λ k. LeadsOn k c.args.b) c.loop-a.a c.loop-a.invariant c.lead_on-grew.ensures

pub returns : goal.returns
returns g c = all (chains g.row.N g.row.W) (λ k. LeadsOn k c.args.b) g.row.N c.loop-a.a c.loop-a-test.false c.loop-a.invariant
