use Rattle.std.proofs.Common.{sym, ◌∙◌, arith}
use Rattle.std.proofs.lemmas.Bool.{eq-eqb, eqb-true}
use Rattle.flows.specs.Within.{start}
use Rattle.flows.proofs.Ways.{cut, whole, fewer}
use Rattle.flows.proofs.reach.within.Goals as goal

pub loop-init : goal.loop-init
loop-init c = (
  λ y e. (omega arith, c.at_root-seen.ensures y ∙ eq-eqb y 64 e),
  λ y h. start (eqb-true y 64 (sym (c.at_root-seen.ensures y) ∙ h.1)),
)

pub loop-smaller : goal.loop-smaller
loop-smaller c =
    fewer c.loop.seen c.enter_all.new.seen c.enter_all.result c.loop-test.true c.enter_all.ensures.kept c.enter_all.ensures.told

pub loop-preserved : goal.loop-preserved
loop-preserved c =
    (λ y e. c.enter_all.ensures.kept y (c.loop.invariant.0 y e), λ y h. cut c.loop.invariant.1 (c.enter_all.ensures.follows y h))

pub returns : goal.returns
returns c y = (
  λ h. cut c.loop.invariant.1 (c.enter_all.ensures.follows y h),
  whole c.args.passing.now c.enter_all.new.seen (λ z e. c.enter_all.ensures.kept z (c.loop.invariant.0 z e)) (c.enter_all.ensures.closed c.loop-test.false),
)
