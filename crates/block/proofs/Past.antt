-- Past the last mode there is no table.
use Rattle.std.proofs.Common.{◌≡◌, ℕ, ◌≤◌, false, List, length, get_or, ap, ◌∙◌}
use Rattle.std.proofs.lemmas.List.{get_or_past}
use Rattle.sets.specs.Member.{relates, empty_relation}
use Rattle.sets.specs.declared.relation.Relation.{Relation}
use Rattle.sets.proofs.Rows.{none_clear}

pub past_modes : (tables : List (Relation 256 1)) (p x z : ℕ) → length tables ≤ p → relates (get_or tables p empty_relation) x z ≡ false
past_modes tables p x z h = ap (λ (r : Relation 256 1). relates r x z) (get_or_past tables p empty_relation h) ∙ none_clear 1 z
