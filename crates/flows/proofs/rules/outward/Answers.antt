use Rattle.std.proofs.Common.{◌≡◌, ℕ, ◌<◌, sym, refl, ◌∙◌, subst, arith}
use Rattle.sets.specs.Member.{in_set, relates}
use Rattle.sets.proofs.Chaining.{Gained, joined}
use Rattle.sets.proofs.Steps.{spread_of, clash}
use Rattle.model.specs.declared.fact.Fact.{Fact}
use Rattle.model.specs.declared.fact.Fact.TheVariants.{Flow}
use Rattle.model.specs.Flows.{before, outward}
use Rattle.block.specs.declared.relations.Relations.{Relations}
use Rattle.flows.specs.Spread.{Has, Follows}
use Rattle.flows.specs.Rules.{Outward}
use Rattle.flows.proofs.Growth.{flows_joined}
use Rattle.flows.proofs.Places.{placed, of_flow, of_control}
use Rattle.flows.proofs.Steps.{rules, stays}
use Rattle.flows.proofs.rules.outward.Goals as goal

pub returns-then-not-has : goal.returns-then-not-has
returns-then-not-has c tables u =
    stays tables c.args.relations.now (Outward c.args.s c.args.t)
    (λ _ h _. clash _ c.if-not-has.ensures (of_control tables c.args.relations.now c.args.s c.args.t h).2)

pub returns : goal.returns
returns c tables u =
    let r = c.args.relations.now in
    let i : c.args.s < 256 = omega (arith, c.requires.s) in
    let l : c.args.t < 256 = omega (arith, c.requires.t) in
    let row = in_set c.row.result.now in
    let More = Gained r.flows c.join.new.self c.args.s row c.join.result i c.join.ensures.members c.join.ensures.grew in
    let controls : Has tables r (Fact.Control c.args.s c.args.t) =
    placed 64 64 c.args.s c.args.t (relates r.control c.args.s c.args.t) c.requires.s c.requires.t (sym c.if-not-has.ensures) in
    spread_of (rules tables) r _ c.join.result (λ f. (p : ℕ × ℕ) × More p × (f ≡ Flow p.0 p.1)) (λ x. Outward c.args.s c.args.t (Has tables x))
    (flows_joined tables r c.join.new.self c.join.result More (joined r.flows c.join.new.self c.args.s row c.join.result i c.join.ensures.members c.join.ensures.grew))
    (λ f w. subst (Follows tables (Has tables r)) (sym w.2)
    (subst (λ (x : ℕ). Follows tables (Has tables r) (Flow x w.0.1)) (sym w.1.0)
    (outward u (before controls)
    (before (placed 256 256 c.args.t w.0.1 (relates r.flows c.args.t w.0.1) l w.1.1 (sym (c.row.ensures w.0.1) ∙ w.1.2))))))
    (λ same add e _ h.
    let v = of_flow tables r c.args.t e (subst (λ (x : Relations). Has tables x (Flow c.args.t e)) same h) in
    add (Flow c.args.s e) ((c.args.s, e), (refl, v.1, c.row.ensures e ∙ v.2), refl))
