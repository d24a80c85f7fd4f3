use Rattle.std.proofs.Common.{◌≡◌, ℕ, not, ◌&&◌, eqb, ltb, length, get_or}
use Rattle.sets.specs.Member.{in_set, empty_set}
use Rattle.sets.proofs.relation.Relation.clear_column.Given as goal

-- the rows below the index have lost the number
abbrev pub invariant-loop-row : goal.invariant-loop-row
invariant-loop-row g l = record {
  long : length l.row-items ≡ g.row.N;
  lost : (x z : ℕ) → in_set (get_or l.row-items x empty_set) z ≡ (not (ltb x l.row-index && eqb z l.k) && in_set (get_or l.initial.row-items x empty_set) z);
}
