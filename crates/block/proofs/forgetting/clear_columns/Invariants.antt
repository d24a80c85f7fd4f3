use Rattle.std.proofs.Common.{◌≡◌, ℕ, not, ◌&&◌, eqb, ltb, get_or}
use Rattle.sets.specs.Member.{relates, empty_relation}
use Rattle.block.proofs.forgetting.clear_columns.Given as goal

-- the tables of the modes below the index have lost the number
abbrev pub invariant-loop-table : goal.invariant-loop-table
invariant-loop-table l =
    (p x z : ℕ) → relates (get_or l.tables p empty_relation) x z ≡ (not (ltb p l.table-index && eqb z l.k) && relates (get_or l.initial.tables p empty_relation) x z)
