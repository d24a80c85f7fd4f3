use Rattle.std.proofs.Common.{ℕ, ◌<◌}
use Rattle.block.specs.Reading.{state}
use Rattle.flows.specs.Within.{Opening, Opened}
use Rattle.flows.proofs.reach.enter_all.Given as goal

abbrev pub invariant-loop-c : goal.invariant-loop-c
invariant-loop-c l = Opening (state l.records) l.passing l.initial.seen l.seen l.grew (λ x. (k : ℕ) → k < l.c → Opened (state l.records) l.passing k x)
