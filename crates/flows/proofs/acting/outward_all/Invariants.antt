use Rattle.std.proofs.Common.{ℕ, ◌<◌}
use Rattle.model.specs.Flows.{Unguarded}
use Rattle.block.specs.Reading.{cards_of}
use Rattle.block.specs.declared.tables.Tables.{Tables}
use Rattle.flows.specs.Spread.{Spread}
use Rattle.flows.specs.Rules.{Outward}
use Rattle.flows.proofs.acting.outward_all.Given as goal

abbrev pub invariant-loop-t : goal.invariant-loop-t
invariant-loop-t l = (tables : Tables) → Unguarded (cards_of tables) l.s → Spread tables l.initial.relations l.relations l.grew (λ P. (k : ℕ) → k < l.t → Outward l.s k P)
