use Rattle.std.proofs.Common.{◌<◌, arith}
use Rattle.model.specs.Flows.{before, itself}
use Rattle.flows.specs.Rules.{Itself}
use Rattle.flows.proofs.Growth.{gives_control}
use Rattle.flows.proofs.Places.{granted, denied}
use Rattle.flows.proofs.Steps.{stays}
use Rattle.flows.proofs.rules.itself.Goals as goal

pub returns-then-not-lives : goal.returns-then-not-lives
returns-then-not-lives c =
    stays c.args.tables.now c.args.relations.now (Itself c.args.s) (denied _ (c.if-not-lives.ensures c.args.relations.now))

pub returns : goal.returns
returns c =
    let l : c.args.s < 64 = omega (arith, c.requires.1) in
    gives_control c.args.tables.now c.args.relations.now c.add.new.self c.args.s c.args.s c.add.result (Itself c.args.s) l l
    c.add.ensures.members c.add.ensures.grew (itself c.requires (before (granted _ (c.if-not-lives.ensures c.args.relations.now)))) (λ h _. h)
