-- A relation by its rows: past the last there is nothing, and a new one has nothing.
use Rattle.std.proofs.Common.{◌≡◌, ℕ, zero, suc, ◌≤◌, false, List, length, get_or, replicate, ap, ◌∙◌, arith}
use Rattle.std.proofs.lemmas.List.{get_or_past}
use Rattle.sets.specs.declared.set.Set.{Set}
use Rattle.sets.specs.Member.{in_set, empty_set}
use Rattle.sets.proofs.Words.{past}

pub none_clear : (W k : ℕ) → in_set {W = W} empty_set k ≡ false
none_clear W k = past {W = W} empty_set k (omega arith)

pub row_past : {W : ℕ} (rows : List (Set W)) (x z : ℕ) → length rows ≤ x → in_set (get_or rows x empty_set) z ≡ false
row_past {W = W} rows x z h = ap (λ (s : Set W). in_set s z) (get_or_past rows x empty_set h) ∙ none_clear W z

pub rows_clear : {W : ℕ} (q : Set W) → ((k : ℕ) → in_set q k ≡ false) → (n x z : ℕ) → in_set (get_or (replicate n q) x empty_set) z ≡ false
rows_clear {W = W} q clear zero x z = none_clear W z
rows_clear q clear (suc n) zero z = clear z
rows_clear q clear (suc n) (suc x) z = rows_clear q clear n x z
