use Rattle.std.proofs.Common.{◌≡◌, List}
use Rattle.text.specs.declared.record.Line.{Line}
use Rattle.text.specs.Lines.{Accepted}
use Rattle.text.specs.Walks.{Walk}
use Rattle.block.specs.Reading.{state}
use Rattle.block.specs.Writing.{empty}
use Rattle.start.specs.Setup.{listed}
use Rattle.start.specs.Grounds.{Clean}
use Rattle.start.proofs.second.second_reading.Given as goal

abbrev pub invariant-loop-number : goal.invariant-loop-number
invariant-loop-number g l =
    (ls : List Line) → Accepted l.text ls → state l.all ≡ listed ls → state l.initial.earlier ≡ empty → (done : List Line) × Walk ls l.number-iterator done × (state l.earlier ≡ listed done) × Clean (g.O.LevelOrder.meaning l.order) (g.R.HouseRule.answers l.rule) (listed ls) done
