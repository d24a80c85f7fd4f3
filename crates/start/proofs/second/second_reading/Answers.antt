use Rattle.std.proofs.Common.{◌≡◌, ℕ, List, [], ◌∷◌, length, sym, ap, ◌∙◌, subst, add-one, rules}
use Rattle.std.proofs.lemmas.Result.{err_from_is_err_and}
use Rattle.text.specs.declared.record.Line.{Line}
use Rattle.text.specs.Walks.{Walk}
use Rattle.model.specs.declared.answer.Refusal.{Refusal}
use Rattle.model.specs.declared.answer.StartRefusal.{StartRefusal}
use Rattle.model.specs.Judged.{Judged}
use Rattle.model.specs.Records.{State}
use Rattle.model.specs.Needs.{Met, Fails}
use Rattle.block.specs.Reading.{state}
use Rattle.start.specs.Setup.{with, listed}
use Rattle.start.specs.Grounds.{asks, Clean}
use Rattle.start.specs.Starts.{Stops}
use Rattle.start.proofs.Mapped.{mapped_ok, mapped_err}
use Rattle.start.proofs.second.second_reading.Goals as goal

-- a refusal, told at line n
abbrev Told : ℕ → Refusal → StartRefusal → Type 0
Told n refusal why = why ≡ record { refusal = refusal; line = n }

pub returns-in_err-map_err : goal.returns-in_err-map_err
returns-in_err-map_err g c = λ ls a e f.
    let o = g.O.LevelOrder.meaning c.args.order.now in
    let h = g.R.HouseRule.answers c.args.rule.now in
    let l = c.in-Some.line in
    let inv = c.loop-number.invariant ls a e f in
    let walk = c.in-Some.ensures.steps.walk ls inv.0 inv.1 in
    let p = err_from_is_err_and c.from_residual.result c.from_residual.ensures.1 in
    let at = mapped_err _ c.map_err.result c.judge.result c.in_err-map_err.field-0.0 c.map_err.ensures.cases c.in_err-map_err.was in
    let same : Told c.in-Some.number at.0 c.in_err-map_err.field-0.0 = search (rules, at.2) in
    let fails = subst (Judged (asks o h (state c.args.all.now) (state c.loop-number.earlier) l)) at.1 c.judge.ensures in
    rw (p.1, p.2) (subst (λ (why : StartRefusal). Stops o h ls why.refusal why.line) (sym same) (record {
      later = walk.later;
      line = l;
      earlier = inv.0;
      whole = walk.lines;
      clean = inv.3;
      fails = subst (λ (B : State). Fails (asks o h (listed ls) B l) at.0) inv.2 (subst (λ (A : State). Fails (asks o h A (state c.loop-number.earlier) l) at.0) e fails);
      number = c.in-Some.ensures.steps.number ∙ (walk.count ∙ sym (add-one (length inv.0)));
    }))

pub loop-number-init : goal.loop-number-init
loop-number-init g c = λ ls a e f. ([], subst (λ r. Walk ls r []) (sym c.into_iter-number-iterator.ensures.into_iter_gives) (c.lines-number-items.ensures ls a), f, tt)

pub loop-number-preserved : goal.loop-number-preserved
loop-number-preserved g c = λ ls a e f.
    let o = g.O.LevelOrder.meaning c.args.order.now in
    let h = g.R.HouseRule.answers c.args.rule.now in
    let l = c.in-Some.line in
    let inv = c.loop-number.invariant ls a e f in
    let met = subst (Judged (asks o h (state c.args.all.now) (state c.loop-number.earlier) l)) (mapped_ok (Told c.in-Some.number) c.map_err.result c.judge.result _ (search rules) c.in_ok-map_err.was) c.judge.ensures in
    (l ∷ inv.0, c.in-Some.ensures.steps.walk ls inv.0 inv.1, c.define.ensures ∙ ap (with l) inv.2, (subst (λ (B : State). Met (asks o h (listed ls) B l)) inv.2 (subst (λ (A : State). Met (asks o h A (state c.loop-number.earlier) l)) e met), inv.3))

pub returns : goal.returns
returns g c = λ ls a e f.
    let o = g.O.LevelOrder.meaning c.args.order.now in
    let h = g.R.HouseRule.answers c.args.rule.now in
    let inv = c.loop-number.invariant ls a e f in
    subst (λ (done : List Line). Clean o h (listed ls) done) (c.in-None.ensures.steps.walk ls inv.0 inv.1) inv.3
