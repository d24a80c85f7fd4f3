use Rattle.std.proofs.Common.{◌≡◌, ℕ, not, ◌&&◌, eqb, ltb, get_or}
use Rattle.sets.specs.Member.{relates, empty_relation}
use Rattle.block.proofs.forgetting.clear_rows.Given as goal

-- the tables of the modes below the index have lost the row
abbrev pub invariant-loop-table : goal.invariant-loop-table
invariant-loop-table l =
    (p x z : ℕ) → relates (get_or l.tables p empty_relation) x z ≡ (not (ltb p l.table-index && eqb x l.i) && relates (get_or l.initial.tables p empty_relation) x z)
