use Rattle.block.specs.Reading.{cards_of}
use Rattle.flows.specs.Rules.{Controlled}
use Rattle.flows.specs.Spread.{Spread, program_of}
use Rattle.flows.proofs.Steps.{Below}
use Rattle.flows.proofs.control.controlled_all.Given as goal

abbrev pub invariant-loop-t : goal.invariant-loop-t
invariant-loop-t l = Spread l.tables l.initial.relations l.relations l.grew (Below (Controlled (cards_of l.tables) (program_of l.tables)) l.t)
