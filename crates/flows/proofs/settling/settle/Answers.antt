use Rattle.std.proofs.Common.{refl}
use Rattle.model.specs.Flows.{before}
use Rattle.flows.proofs.Steps.{cut, whole}
use Rattle.flows.proofs.Missing.{fewer}
use Rattle.flows.proofs.settling.settle.Goals as goal

pub loop-init : goal.loop-init
loop-init c = (λ f h. h, λ f h. before h)

pub loop-smaller : goal.loop-smaller
loop-smaller c =
    fewer c.args.tables.now c.loop.relations c.spread.new.relations c.spread.result c.loop-test.true c.spread.ensures.kept c.spread.ensures.told

pub loop-preserved : goal.loop-preserved
loop-preserved c = (λ f h. c.spread.ensures.kept f (c.loop.invariant.0 f h), λ f h. cut c.loop.invariant.1 (c.spread.ensures.follows f h))

pub returns : goal.returns
returns c =
    record {
      cards = refl;
      program = refl;
      parent = refl;
      facts = λ f. (
        λ h. cut c.loop.invariant.1 (c.spread.ensures.follows f h),
        whole c.args.tables.now c.args.relations.now c.spread.new.relations (λ g h. c.spread.ensures.kept g (c.loop.invariant.0 g h)) (c.spread.ensures.closed c.loop-test.false),
      );
    }
