use Rattle.std.proofs.Common.{ℕ, ◌<◌}
use Rattle.sets.specs.Chains.{Extends, Through}
use Rattle.sets.proofs.relation.Relation.go_on.Given as goal

abbrev pub invariant-loop-b : goal.invariant-loop-b
invariant-loop-b g l = Extends l.initial.self l.self l.grew (λ r. (k : ℕ) → k < l.b → Through k r)
