use Rattle.std.proofs.Common.{◌<◌, arith}
use Rattle.model.specs.Flows.{before, writing}
use Rattle.flows.specs.Rules.{Writing}
use Rattle.flows.proofs.Growth.{gives_flow}
use Rattle.flows.proofs.Steps.{stays}
use Rattle.flows.proofs.rules.writing.Goals as goal

pub returns-then-not-has_through : goal.returns-then-not-has_through
returns-then-not-has_through c =
    stays c.args.tables.now c.args.relations.now (Writing c.args.s c.args.e) (λ t h w. absurd (c.if-not-has_through.ensures t h w))

pub returns : goal.returns
returns c =
    let m = c.if-not-has_through.ensures in
    let i : c.args.s < 256 = omega (arith, c.requires.s.0.1) in
    gives_flow c.args.tables.now c.args.relations.now c.add.new.self c.args.s c.args.e c.add.result (Writing c.args.s c.args.e) i c.requires.e
    c.add.ensures.members c.add.ensures.grew (writing c.requires.s (before m.1) (before m.2)) (λ h _ _ _. h)
