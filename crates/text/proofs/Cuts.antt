-- Lists cut at a byte. Assumes nothing.
use Rattle.std.proofs.Common.{◌≡◌, ℕ, ◌+◌, ◌-◌, ◌<◌, List, [], ◌∷◌, ◌++◌, length, get_or, take, drop, sym, refl, ap, ◌∙◌, subst, add-one, arith, length-append, take-append-drop}
use Rattle.std.proofs.lemmas.List.{drop_more, get_or-take, length-take-le, take_rest}
use Rattle.std.proofs.ByRecursion.{All-from_get_or}
use Rattle.text.specs.Cut.{Lacks, CutAt}

-- a list is cut where b is found first
cut_read : (b : ℕ) (xs : List ℕ) (n : ℕ) → n < length xs → ((k : ℕ) → k < n → get_or xs k 0 ≡ b → ⊥) → get_or xs n 0 ≡ b → CutAt b xs (take n xs) (drop (n + 1) xs)
cut_read b xs n l before found = record {
  whole = sym (take-append-drop n xs) ∙ ap (λ t. take n xs ++ t) (drop_more xs n 0 l ∙ ap (λ y. y ∷ drop (n + 1) xs) found);
  first = All-from_get_or (λ x. x ≡ b → ⊥) (take n xs) 0 (λ i k. let long = length-take-le n xs (omega arith) in let low : i < n = omega arith in λ e. before i low (sym (get_or-take n xs i 0 low) ∙ e));
}

-- and in one way
pub cut_same : (b : ℕ) (f g r s : List ℕ) → Lacks b f → Lacks b g → f ++ b ∷ r ≡ g ++ b ∷ s → (f ≡ g) × (r ≡ s)
cut_same b [] [] r s p q e = (refl, cc)
cut_same b [] (y ∷ g) r s p q e = let h : y ≡ b = cc in absurd (q.0 h)
cut_same b (x ∷ f) [] r s p q e = let h : x ≡ b = cc in absurd (p.0 h)
cut_same b (x ∷ f) (y ∷ g) r s p q e =
    let t : f ++ b ∷ r ≡ g ++ b ∷ s = cc in
    let h : x ≡ y = cc in
    let rec = cut_same b f g r s p.1 q.1 t in
    let i = rec.0 in
    (cc, rec.1)

-- a list without b is not cut there
pub uncut : (b : ℕ) (xs f r : List ℕ) → Lacks b xs → xs ≡ f ++ b ∷ r → ⊥
uncut b [] [] r h e = let z : ◌≡◌ {A = ℕ} 0 1 = cc in omega arith
uncut b [] (y ∷ f) r h e = let z : ◌≡◌ {A = ℕ} 0 1 = cc in omega arith
uncut b (x ∷ xs) [] r h e = let i : x ≡ b = cc in h.0 i
uncut b (x ∷ xs) (y ∷ f) r h e = let t : xs ≡ f ++ b ∷ r = cc in uncut b xs f r h.1 t

-- each part of a cut list is shorter than it
pub cut_length : {b : ℕ} {xs front back : List ℕ} → CutAt b xs front back → length xs ≡ length front + (length back + 1)
cut_length {b} {xs} {front} {back} c = ap length c.whole ∙ length-append front (b ∷ back) ∙ ap (λ k. length front + k) (sym (add-one (length back)))

-- the parts, as slices have them
pub slices_cut : (b : ℕ) (xs : List ℕ) (n : ℕ) → n < length xs → ((k : ℕ) → k < n → get_or xs k 0 ≡ b → ⊥) → get_or xs n 0 ≡ b → CutAt b xs (take n xs) (take (length xs - (n + 1)) (drop (n + 1) xs))
slices_cut b xs n l before found = subst (CutAt b xs (take n xs)) (sym (take_rest xs (n + 1))) (cut_read b xs n l before found)
