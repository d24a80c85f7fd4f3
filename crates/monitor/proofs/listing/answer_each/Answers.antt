use Rattle.std.proofs.Common.{◌<◌, ◌≤◌, length, sym, refl, ◌∙◌, subst, arith}
use Rattle.model.specs.declared.request.Request.{Request}
use Rattle.requests.specs.Answered.{Answered}
use Rattle.monitor.specs.Lists.{none}
use Rattle.monitor.proofs.Turning.{requests_set, one_more, all_done}
use Rattle.monitor.proofs.listing.answer_each.Goals as goal

pub loop-entry-init : goal.loop-entry-init
loop-entry-init g c = (refl, none)

pub loop-entry-preserved : goal.loop-entry-preserved
loop-entry-preserved g c =
    let o = g.O.LevelOrder.meaning c.args.order.now in
    let h = g.R.HouseRule.answers c.args.rule.now in
    let lt : c.loop-entry.entry-index < length c.loop-entry.records = omega arith in
    let done = c.answer_in_place.new.entry in
    let same = c.answer_in_place.ensures.stays in
    (requests_set c.loop-entry.records c.loop-entry.entry-index _ done same ∙ c.loop-entry.invariant.0, one_more o h _ _ _ c.loop-entry.records c.loop-entry.entry-index done lt c.loop-entry.invariant.1 (subst (λ (q : Request). Answered o h c.loop-entry.held q done.answer c.answer_in_place.new.held) (sym same) c.answer_in_place.ensures.answered))

pub returns : goal.returns
returns g c =
    let all : length c.loop-entry.records ≤ c.loop-entry.entry-index = omega arith in
    record { stays = c.loop-entry.invariant.0; turns = all_done _ _ _ _ c.loop-entry.records _ c.loop-entry.entry-index all c.loop-entry.invariant.0 c.loop-entry.invariant.1 }
