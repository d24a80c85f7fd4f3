-- A list, element by element. Assumes nothing.
use Rattle.std.proofs.Common.{◌≡◌, ℕ, zero, suc, ◌+◌, List, [], ◌∷◌, length, get_or, drop, ◌∙◌, add-one, arith}
use Rattle.std.proofs.lemmas.List.{drop_more, drop_all}

-- n elements of the list, from i on
abbrev pub listed : ℕ → ℕ → List ℕ → List ℕ
listed zero i ns = []
listed (suc n) i ns = get_or ns i 0 ∷ listed n (suc i) ns

listed_drop : (n i : ℕ) (ns : List ℕ) → length ns ≡ i + n → drop i ns ≡ listed n i ns
listed_drop zero i ns l = drop_all i ns (omega arith)
listed_drop (suc n) i ns l =
    let e : drop i ns ≡ get_or ns i 0 ∷ drop (suc i) ns = rw (← add-one) (drop_more ns i 0 (omega arith)) in
    e ∙ (λ t. get_or ns i 0 ∷ listed_drop n (suc i) ns (omega arith) t)

pub is_listed : (n : ℕ) (ns : List ℕ) → length ns ≡ n → ns ≡ listed n 0 ns
is_listed n ns l = listed_drop n 0 ns (omega arith)
