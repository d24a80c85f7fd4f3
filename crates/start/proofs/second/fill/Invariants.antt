use Rattle.std.proofs.Common.{◌≡◌, List}
use Rattle.text.specs.declared.record.Line.{Line}
use Rattle.text.specs.Lines.{Accepted}
use Rattle.text.specs.Walks.{Walk}
use Rattle.block.specs.Reading.{state}
use Rattle.block.specs.Writing.{empty}
use Rattle.start.specs.Setup.{listed}
use Rattle.start.proofs.second.fill.Given as goal

abbrev pub invariant-loop-line : goal.invariant-loop-line
invariant-loop-line l =
    (ls : List Line) → Accepted l.text ls → state l.initial.all ≡ empty → (done : List Line) × Walk ls l.line-iterator done × (state l.all ≡ listed done)
