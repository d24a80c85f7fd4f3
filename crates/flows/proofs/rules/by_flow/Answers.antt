use Rattle.std.proofs.Common.{sym}
use Rattle.sets.specs.Member.{relates}
use Rattle.sets.proofs.Steps.{clash}
use Rattle.flows.specs.Rules.{ByFlow}
use Rattle.flows.proofs.Growth.{gives_control}
use Rattle.flows.proofs.Places.{placed, of_flow}
use Rattle.flows.proofs.Steps.{stays}
use Rattle.flows.proofs.rules.by_flow.Goals as goal

pub returns-then-not-has : goal.returns-then-not-has
returns-then-not-has c tables so =
    stays tables c.args.relations.now (ByFlow c.args.a c.args.b c.args.s c.args.t)
    (λ h. clash _ c.if-not-has.ensures (of_flow tables c.args.relations.now c.args.a c.args.b h).2)

pub returns : goal.returns
returns c tables so =
    gives_control tables c.args.relations.now c.add.new.self c.args.s c.args.t c.add.result (ByFlow c.args.a c.args.b c.args.s c.args.t)
    c.requires.s c.requires.t c.add.ensures.members c.add.ensures.grew
    (so (placed 256 256 c.args.a c.args.b (relates c.args.relations.now.flows c.args.a c.args.b) c.requires.a c.requires.b (sym c.if-not-has.ensures)))
    (λ h _. h)
