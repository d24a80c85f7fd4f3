-- Tables of which all records or rows are one.
use Rattle.std.proofs.Common.{◌≡◌, ℕ, zero, suc, false, ltb, get_or, replicate, refl, ◌∙◌}
use Rattle.std.proofs.lemmas.List.{get_or-replicate}
use Rattle.std.proofs.lemmas.Bool.{ltb-true, cond_both}
use Rattle.sets.specs.Member.{relates, empty_relation}
use Rattle.sets.specs.declared.relation.Relation.{Relation}
use Rattle.sets.proofs.Rows.{none_clear}
use Rattle.block.specs.Reading.{at}

-- nothing is written
pub none_at : {X : Type 0} (n : ℕ) (none x : X) → x ≡ none → (i : ℕ) → at n (replicate n x) none i ≡ none
none_at n none x e i =
    cond_both (ltb i n) (get_or (replicate n x) i none) none (λ y. y ≡ none) (λ l. get_or-replicate n i x none (ltb-true i n l) ∙ e) (λ l. refl)

pub modes_clear : (q : Relation 256 1) → ((x z : ℕ) → relates q x z ≡ false) → (n p x z : ℕ) → relates (get_or (replicate n q) p empty_relation) x z ≡ false
modes_clear q clear zero p x z = none_clear 1 z
modes_clear q clear (suc n) zero x z = clear x z
modes_clear q clear (suc n) (suc p) x z = modes_clear q clear n p x z
