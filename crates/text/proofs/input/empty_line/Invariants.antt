use Rattle.text.specs.Inputs.{NoneBefore}
use Rattle.text.proofs.input.empty_line.Given as goal

abbrev pub invariant-loop-at : goal.invariant-loop-at
invariant-loop-at l = NoneBefore l.text l.at
