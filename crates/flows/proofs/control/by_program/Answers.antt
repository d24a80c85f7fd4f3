use Rattle.std.proofs.Common.{ℕ, sym, ◌∙◌, subst, arith}
use Rattle.sets.proofs.Steps.{weaken}
use Rattle.model.specs.declared.fact.Fact.TheVariants.{Flow}
use Rattle.model.specs.Flows.{before, by_program}
use Rattle.flows.specs.Spread.{Has, Follows, program_of}
use Rattle.flows.specs.Rules.{ByFlow, ByProgram}
use Rattle.flows.proofs.Places.{of_flow}
use Rattle.flows.proofs.Steps.{rules, stays, sessions_none, sessions_more, sessions_all}
use Rattle.flows.proofs.control.by_program.Goals as goal

pub returns-then-e-eq0 : goal.returns-then-e-eq0
returns-then-e-eq0 c =
    stays c.args.tables.now c.args.relations.now (ByProgram (program_of c.args.tables.now) c.args.t)
    (λ s i n _. absurd (n (sym c.program-e.ensures ∙ c.if-e-eq0.true)))

pub returns-then-e-gt255 : goal.returns-then-e-gt255
returns-then-e-gt255 c =
    stays c.args.tables.now c.args.relations.now (ByProgram (program_of c.args.tables.now) c.args.t)
    (λ s i n h. absurd (omega (arith, c.program-e.ensures, (of_flow c.args.tables.now c.args.relations.now s (program_of c.args.tables.now c.args.t) h).1)))

pub loop-s-init : goal.loop-s-init
loop-s-init c = sessions_none c.args.tables.now c.args.relations.now (λ k. ByFlow k c.program-e.result k c.args.t)

pub loop-s-preserved : goal.loop-s-preserved
loop-s-preserved c =
    sessions_more c.args.tables.now (λ k. ByFlow k c.program-e.result k c.args.t) c.loop-s.s c.loop-s.invariant
    (c.by_flow-grew.ensures c.args.tables.now
    (λ h. by_program (c.loop-s.auto.s, omega arith) c.requires (λ z. c.if-e-eq0.false (c.program-e.ensures ∙ z))
    (subst (λ (e : ℕ). Follows c.args.tables.now (Has c.args.tables.now c.loop-s.relations) (Flow c.loop-s.s e)) c.program-e.ensures (before h))))

pub returns : goal.returns
returns c =
    weaken (rules c.args.tables.now) (λ x. ByProgram (program_of c.args.tables.now) c.args.t (Has c.args.tables.now x))
    (λ p s i n. subst (λ (e : ℕ). ByFlow s e s c.args.t (Has c.args.tables.now c.loop-s.relations)) c.program-e.ensures (p s i))
    (sessions_all c.args.tables.now (λ k. ByFlow k c.program-e.result k c.args.t) c.loop-s.s c.loop-s-test.false c.loop-s.invariant)
