use Rattle.std.proofs.Common.{◌≡◌, ℕ}
use Rattle.model.specs.Records.{root}
use Rattle.block.specs.Reading.{state}
use Rattle.flows.specs.Within.{In, Within}
use Rattle.flows.proofs.Ways.{unseen}
use Rattle.flows.proofs.reach.within.Given as goal

abbrev pub invariant-loop : goal.invariant-loop
invariant-loop l =
    ((y : ℕ) → y ≡ root → In l.seen y) × ((y : ℕ) → In l.seen y → Within (state l.records) (In l.passing) (λ c. c ≡ root) y)

abbrev pub decreases-loop : goal.decreases-loop
decreases-loop l = unseen l.seen
