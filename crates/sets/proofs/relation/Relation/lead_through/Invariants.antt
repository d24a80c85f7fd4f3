use Rattle.std.proofs.Common.{ℕ, ◌<◌}
use Rattle.sets.specs.Chains.{Extends, LeadsOn}
use Rattle.sets.proofs.relation.Relation.lead_through.Given as goal

abbrev pub invariant-loop-a : goal.invariant-loop-a
invariant-loop-a g l = Extends l.initial.self l.self l.grew (λ r. (k : ℕ) → k < l.a → LeadsOn k l.b r)
