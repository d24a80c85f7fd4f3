use Rattle.std.proofs.Common.{ℕ, sym, ◌∙◌}
use Rattle.sets.proofs.Steps.{both, weaken, clash}
use Rattle.model.specs.declared.fact.Fact.TheVariants.{Control}
use Rattle.model.specs.Flows.{Unguarded}
use Rattle.block.specs.Reading.{cards_of}
use Rattle.flows.specs.Spread.{Has}
use Rattle.flows.specs.Rules.{Acts}
use Rattle.flows.proofs.Places.{granted, denied, of_control}
use Rattle.flows.proofs.Steps.{rules, stays}
use Rattle.flows.proofs.acting.acts.Goals as goal

pub returns-then-is_empty : goal.returns-then-is_empty
returns-then-is_empty c =
    let none : (t : ℕ) → Has c.args.tables.now c.args.relations.now (Control c.args.s t) → ⊥ =
    λ t h. clash _ (sym (c.if-is_empty.ensures t)) (c.row.ensures t ∙ (of_control c.args.tables.now c.args.relations.now c.args.s t h).2) in
    stays c.args.tables.now c.args.relations.now (λ P. Unguarded (cards_of c.args.tables.now) c.args.s → Acts c.args.s P)
    (λ _. record {
      outward = λ t _ _ h _. absurd (none t h);
      touches = λ e _. record { writing = λ t h _. absurd (none t h); reading = λ t h _. absurd (none t h); inward = λ t h _. absurd (none t h) };
    })

pub returns-then-not-unguarded : goal.returns-then-not-unguarded
returns-then-not-unguarded c =
    stays c.args.tables.now c.args.relations.now (λ P. Unguarded (cards_of c.args.tables.now) c.args.s → Acts c.args.s P)
    (λ u. denied _ c.if-not-unguarded.ensures u.1)

pub touch_all-grew-requires : goal.touch_all-grew-requires
touch_all-grew-requires c = (c.requires, granted _ c.if-not-unguarded.ensures)

pub returns : goal.returns
returns c =
    let t = c.args.tables.now in
    let u : Unguarded (cards_of t) c.args.s = (c.requires, granted _ c.if-not-unguarded.ensures) in
    weaken (rules t) (λ x. Unguarded (cards_of t) c.args.s → Acts c.args.s (Has t x)) (λ p _. record { outward = p.0; touches = p.1 })
    (both (rules t) (c.outward_all-grew.ensures t u) c.touch_all-grew.ensures)
