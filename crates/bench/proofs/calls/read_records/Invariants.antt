use Rattle.std.proofs.Common.{◌≤◌}
use Rattle.bench.specs.Scripts.{ahead}
use Rattle.bench.proofs.calls.read_records.Given as goal

abbrev pub invariant-loop : goal.invariant-loop
invariant-loop l = ahead l.script ≤ ahead l.initial.script
