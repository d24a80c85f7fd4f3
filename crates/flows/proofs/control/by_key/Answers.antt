use Rattle.std.proofs.Common.{ℕ, sym, ◌∙◌, subst, arith}
use Rattle.sets.proofs.Steps.{weaken}
use Rattle.model.specs.declared.fact.Fact.TheVariants.{Flow}
use Rattle.model.specs.Flows.{before, by_key, key}
use Rattle.block.specs.Reading.{cards_of}
use Rattle.flows.specs.Spread.{Has, Follows}
use Rattle.flows.specs.Rules.{ByFlow, ByKey}
use Rattle.flows.proofs.Places.{granted, denied, of_flow}
use Rattle.flows.proofs.Steps.{rules, stays, sessions_none, sessions_more, sessions_all}
use Rattle.flows.proofs.control.by_key.Goals as goal

pub returns-then-not-lives : goal.returns-then-not-lives
returns-then-not-lives c =
    stays c.args.tables.now c.args.relations.now (ByKey (cards_of c.args.tables.now) c.args.t)
    (λ s i l _ _. denied _ (c.if-not-lives.ensures c.args.relations.now) l)

pub returns-then-e-eq0 : goal.returns-then-e-eq0
returns-then-e-eq0 c =
    stays c.args.tables.now c.args.relations.now (ByKey (cards_of c.args.tables.now) c.args.t)
    (λ s i l n _. absurd (n (sym c.account_key-e.ensures ∙ c.if-e-eq0.true)))

pub returns-then-e-gt255 : goal.returns-then-e-gt255
returns-then-e-gt255 c =
    stays c.args.tables.now c.args.relations.now (ByKey (cards_of c.args.tables.now) c.args.t)
    (λ s i l n h. absurd (omega (arith, c.account_key-e.ensures, (of_flow c.args.tables.now c.args.relations.now (key (cards_of c.args.tables.now) c.args.t) s h).0)))

pub loop-s-init : goal.loop-s-init
loop-s-init c = sessions_none c.args.tables.now c.args.relations.now (λ k. ByFlow c.account_key-e.result k k c.args.t)

pub loop-s-preserved : goal.loop-s-preserved
loop-s-preserved c =
    sessions_more c.args.tables.now (λ k. ByFlow c.account_key-e.result k k c.args.t) c.loop-s.s c.loop-s.invariant
    (c.by_flow-grew.ensures c.args.tables.now
    (λ h. by_key (c.loop-s.auto.s, omega arith) c.requires (before (granted _ (c.if-not-lives.ensures c.loop-s.relations)))
    (λ z. c.if-e-eq0.false (c.account_key-e.ensures ∙ z))
    (subst (λ (e : ℕ). Follows c.args.tables.now (Has c.args.tables.now c.loop-s.relations) (Flow e c.loop-s.s)) c.account_key-e.ensures (before h))))

pub returns : goal.returns
returns c =
    weaken (rules c.args.tables.now) (λ x. ByKey (cards_of c.args.tables.now) c.args.t (Has c.args.tables.now x))
    (λ p s i _ _. subst (λ (e : ℕ). ByFlow e s s c.args.t (Has c.args.tables.now c.loop-s.relations)) c.account_key-e.ensures (p s i))
    (sessions_all c.args.tables.now (λ k. ByFlow c.account_key-e.result k k c.args.t) c.loop-s.s c.loop-s-test.false c.loop-s.invariant)
