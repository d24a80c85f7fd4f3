use Rattle.std.proofs.Common.{◌<◌, arith}
use Rattle.model.specs.Flows.{before, reading}
use Rattle.flows.specs.Rules.{Reading}
use Rattle.flows.proofs.Growth.{gives_flow}
use Rattle.flows.proofs.Steps.{stays}
use Rattle.flows.proofs.rules.reading.Goals as goal

pub returns-then-not-has_through : goal.returns-then-not-has_through
returns-then-not-has_through c =
    stays c.args.tables.now c.args.relations.now (Reading c.args.s c.args.e) (λ t h w. absurd (c.if-not-has_through.ensures t h w))

pub returns : goal.returns
returns c =
    let m = c.if-not-has_through.ensures in
    let i : c.args.s < 256 = omega (arith, c.requires.s.0.1) in
    gives_flow c.args.tables.now c.args.relations.now c.add.new.self c.args.e c.args.s c.add.result (Reading c.args.s c.args.e) c.requires.e i
    c.add.ensures.members c.add.ensures.grew (reading c.requires.s (before m.1) (before m.2)) (λ h _ _ _. h)
