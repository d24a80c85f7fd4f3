use Rattle.std.proofs.Common.{◌<◌, sym, ◌∙◌, arith}
use Rattle.sets.specs.Member.{in_set, relates}
use Rattle.sets.proofs.Steps.{clash}
use Rattle.model.specs.Flows.{before, inward}
use Rattle.flows.specs.Rules.{Inward}
use Rattle.flows.proofs.Growth.{gives_flow}
use Rattle.flows.proofs.Places.{placed, of_flow, of_control}
use Rattle.flows.proofs.Steps.{stays}
use Rattle.flows.proofs.rules.inward.Goals as goal

pub returns-then-not-meets : goal.returns-then-not-meets
returns-then-not-meets c tables u =
    stays tables c.args.relations.now (Inward c.args.s c.args.e)
    (λ t h w.
    let v = of_control tables c.args.relations.now c.args.s t h in
    let y = of_flow tables c.args.relations.now c.args.e t w in
    clash (in_set c.first-reached.result t) (sym (c.if-not-meets.ensures t (c.row-2.ensures t ∙ v.2)))
    (c.first-reached.ensures t v.1 ∙ (c.row.ensures t ∙ y.2)))

pub returns : goal.returns
returns c tables u =
    let m = c.if-not-meets.ensures in
    let l : m.0 < 256 = omega (arith, m.1) in
    let i : c.args.s < 256 = omega (arith, c.requires.s) in
    gives_flow tables c.args.relations.now c.add.new.self c.args.e c.args.s c.add.result (Inward c.args.s c.args.e) c.requires.e i
    c.add.ensures.members c.add.ensures.grew
    (inward u
    (before (placed 64 64 c.args.s m.0 (relates c.args.relations.now.control c.args.s m.0) c.requires.s m.1 (sym (c.row-2.ensures m.0) ∙ m.2)))
    (before (placed 256 256 c.args.e m.0 (relates c.args.relations.now.flows c.args.e m.0) c.requires.e l
    (sym (c.row.ensures m.0) ∙ (sym (c.first-reached.ensures m.0 m.1) ∙ m.3)))))
    (λ h _ _ _. h)
