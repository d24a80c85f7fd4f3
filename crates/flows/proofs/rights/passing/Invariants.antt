use Rattle.model.specs.Needs.{Passes}
use Rattle.block.specs.Reading.{state}
use Rattle.flows.proofs.Ways.{Chosen}
use Rattle.flows.proofs.rights.passing.Given as goal

abbrev pub invariant-loop-c : goal.invariant-loop-c
invariant-loop-c g l = Chosen (Passes (g.O.LevelOrder.meaning l.order) (state l.records) l.x) l.c l.all
