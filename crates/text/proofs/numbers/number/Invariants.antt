use Rattle.std.proofs.Common.{◌≡◌, ◌^◌, min, take}
use Rattle.std.specs.List.{AllByRecursion}
use Rattle.text.proofs.Numerals.{Digit, after}
use Rattle.text.proofs.numbers.number.Given as goal

abbrev pub invariant-loop-b : goal.invariant-loop-b
invariant-loop-b l = AllByRecursion Digit (take l.b-index l.s) × (l.n ≡ min (after 0 (take l.b-index l.s)) (2 ^ 32))
