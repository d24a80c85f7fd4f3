use Rattle.std.proofs.Common.{sym, ◌∙◌}
use Rattle.sets.proofs.Steps.{still, spread_of, clash}
use Rattle.block.specs.Reading.{state}
use Rattle.sets.specs.Member.{relates}
use Rattle.flows.specs.Within.{In, start, inside, Opened}
use Rattle.flows.proofs.Places.{placed, of_holding}
use Rattle.flows.proofs.Ways.{ways, merged}
use Rattle.flows.proofs.reach.enter.Goals as goal

pub returns-then-not-has : goal.returns-then-not-has
returns-then-not-has c =
    still (ways (state c.args.records.now) c.args.passing.now) c.args.seen.now (Opened (state c.args.records.now) c.args.passing.now c.args.c)
    (λ y _ p _. clash _ c.if-not-has.ensures p.1)

pub returns-then-not-has-2 : goal.returns-then-not-has-2
returns-then-not-has-2 c =
    still (ways (state c.args.records.now) c.args.passing.now) c.args.seen.now (Opened (state c.args.records.now) c.args.passing.now c.args.c)
    (λ y s _ _. clash _ c.if-not-has-2.ensures s.1)

pub returns : goal.returns
returns c =
    let contents = c.args.records.now.tables.contents in
    spread_of (ways (state c.args.records.now) c.args.passing.now) c.args.seen.now c.merge.new.self c.merge.result (In c.row.result.now)
    (Opened (state c.args.records.now) c.args.passing.now c.args.c)
    (merged c.args.seen.now c.merge.new.self c.row.result.now c.merge.result c.merge.ensures.members c.merge.ensures.grew)
    (λ y h. inside (start (c.requires, sym c.if-not-has-2.ensures)) (c.requires, sym c.if-not-has.ensures)
    (placed 256 256 c.args.c y (relates contents c.args.c y) c.requires h.0 (sym (c.row.ensures y) ∙ h.1)))
    (λ e add y _ _ k. let v = of_holding c.args.records.now c.args.c y k in add y (v.1, c.row.ensures y ∙ v.2))
