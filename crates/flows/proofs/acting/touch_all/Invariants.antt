use Rattle.std.proofs.Common.{ℕ, ◌<◌}
use Rattle.flows.specs.Spread.{Spread}
use Rattle.flows.specs.Rules.{Touch}
use Rattle.flows.proofs.acting.touch_all.Given as goal

abbrev pub invariant-loop-e : goal.invariant-loop-e
invariant-loop-e l = Spread l.tables l.initial.relations l.relations l.grew (λ P. (k : ℕ) → k < l.e → Touch l.s k P)
