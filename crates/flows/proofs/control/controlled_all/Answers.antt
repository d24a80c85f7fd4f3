use Rattle.block.specs.Reading.{cards_of}
use Rattle.flows.specs.Spread.{program_of}
use Rattle.flows.specs.Rules.{Controlled}
use Rattle.flows.proofs.Steps.{sessions_none, sessions_more, sessions_all}
use Rattle.flows.proofs.control.controlled_all.Goals as goal

pub loop-t-init : goal.loop-t-init
loop-t-init c = sessions_none c.args.tables.now c.args.relations.now (Controlled (cards_of c.args.tables.now) (program_of c.args.tables.now))

pub loop-t-preserved : goal.loop-t-preserved
loop-t-preserved c = sessions_more c.args.tables.now (Controlled (cards_of c.args.tables.now) (program_of c.args.tables.now)) c.loop-t.t c.loop-t.invariant c.controlled-grew.ensures

pub returns : goal.returns
returns c = sessions_all c.args.tables.now (Controlled (cards_of c.args.tables.now) (program_of c.args.tables.now)) c.loop-t.t c.loop-t-test.false c.loop-t.invariant
