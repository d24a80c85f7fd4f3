use Rattle.std.proofs.Common.{◌<◌, arith}
use Rattle.model.specs.Flows.{before, owner}
use Rattle.flows.specs.Rules.{Owner}
use Rattle.flows.proofs.Growth.{gives_control}
use Rattle.flows.proofs.Places.{granted, denied}
use Rattle.flows.proofs.Steps.{stays}
use Rattle.flows.proofs.rules.owner.Goals as goal

pub returns-then-not-has_access : goal.returns-then-not-has_access
returns-then-not-has_access c =
    stays c.args.tables.now c.args.relations.now (Owner c.args.s c.args.t) (denied _ (c.if-not-has_access.ensures c.args.relations.now))

pub returns : goal.returns
returns c =
    let i : c.args.s < 64 = omega (arith, c.requires.s.1) in
    let l : c.args.t < 64 = omega (arith, c.requires.t.1) in
    gives_control c.args.tables.now c.args.relations.now c.add.new.self c.args.s c.args.t c.add.result (Owner c.args.s c.args.t) i l
    c.add.ensures.members c.add.ensures.grew
    (owner c.requires.s c.requires.t (before (granted _ (c.if-not-has_access.ensures c.args.relations.now)))) (λ h _. h)
