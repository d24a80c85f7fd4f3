use Rattle.sets.proofs.Steps.{none, more, all}
use Rattle.block.specs.Reading.{state}
use Rattle.flows.specs.Within.{Opened}
use Rattle.flows.proofs.Ways.{ways}
use Rattle.flows.proofs.reach.enter_all.Goals as goal

pub loop-c-init : goal.loop-c-init
loop-c-init c =
    none (ways (state c.args.records.now) c.args.passing.now) c.args.seen.now (Opened (state c.args.records.now) c.args.passing.now)

pub loop-c-preserved : goal.loop-c-preserved
loop-c-preserved c =
    more (ways (state c.args.records.now) c.args.passing.now) (Opened (state c.args.records.now) c.args.passing.now) c.loop-c.c c.loop-c.invariant c.enter-grew.ensures

pub returns : goal.returns
returns c =
    all (ways (state c.args.records.now) c.args.passing.now) (Opened (state c.args.records.now) c.args.passing.now) 256 c.loop-c.c c.loop-c-test.false c.loop-c.invariant
