use Rattle.std.proofs.Common.{◌≡◌, length, take}
use Rattle.text.specs.Requests.{Narrow}
use Rattle.text.proofs.request.narrowed.Given as goal

abbrev pub invariant-loop-i : goal.invariant-loop-i
invariant-loop-i g l = (length l.out ≡ g.row.N) × (take l.i l.out ≡ take l.i l.numbers) × Narrow (take l.i l.numbers)
