use Rattle.std.proofs.Common.{ℕ, sym, refl, ◌∙◌, subst}
use Rattle.sets.specs.Member.{in_set, relates}
use Rattle.sets.specs.declared.relation.Relation.{Relation}
use Rattle.sets.specs.Chains.{Has, LeadsOn, Chained, given, on}
use Rattle.sets.proofs.Steps.{still, spread_of, clash}
use Rattle.sets.proofs.Chaining.{chains, Gained, joined}
use Rattle.sets.proofs.relation.Relation.lead_on.Goals as goal

pub returns-then-not-has : goal.returns-then-not-has
returns-then-not-has g c =
    still (chains g.row.N g.row.W) c.args.self.now (LeadsOn c.args.a c.args.b)
    (λ k h _. clash (relates c.args.self.now c.args.a c.args.b) c.if-not-has.ensures h.2)

pub returns : goal.returns
returns g c =
    let old = c.args.self.now in
    let new = c.join.new.self in
    let behind = in_set c.row.result.now in
    spread_of (chains g.row.N g.row.W) old new c.join.result (Gained old new c.args.a behind c.join.result c.requires.a c.join.ensures.members c.join.ensures.grew)
    (LeadsOn c.args.a c.args.b)
    (joined old new c.args.a behind c.join.result c.requires.a c.join.ensures.members c.join.ensures.grew)
    (λ p m. subst (λ (x : ℕ). Chained (Has old) (x, p.1)) (sym m.0) (on (given (c.requires.a, c.requires.b.1, sym c.if-not-has.ensures)) (given (c.requires.b.0, m.1, sym (c.row.ensures p.1) ∙ m.2))))
    (λ same add k _ n. let o = subst (λ (r : Relation g.row.N g.row.W). Has r (c.args.b, k)) same n in add (c.args.a, k) (refl, o.1, c.row.ensures k ∙ o.2))
