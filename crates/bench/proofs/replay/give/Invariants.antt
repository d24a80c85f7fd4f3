use Rattle.std.proofs.Common.{◌≤◌}
use Rattle.bench.proofs.replay.give.Given as goal

abbrev pub invariant-loop-q : goal.invariant-loop-q
invariant-loop-q g l = l.accepted ≤ l.q-index
