-- The order of lines, as they are held. Assumes nothing.
use Rattle.std.proofs.Common.{◌≡◌, ℕ, suc, ◌^◌, ◌<◌, ◌≤◌, false, ◌&&◌, ◌||◌, eqb, ltb, List, [], ◌∷◌, length, get_or, Some, Option, Ordering, refl, ap, ◌∙◌, arith}
use Rattle.std.specs.Cmp.Lexicographic.{slice_partial_cmp}
use Rattle.std.specs.List.{AllByRecursion}
use Rattle.std.specs.Ordering.{is_some_and, is_lt, is_gt, nat_cmp, partial_lt, partial_gt, partial_ordering_then}
use Rattle.std.proofs.lemmas.Bool.Decides.{nat_tests}
use Rattle.text.specs.contracts.record.EntryPartialOrd.TheImpl.{partial_cmp-value as entry_cmp}
use Rattle.text.specs.contracts.record.KeyPartialOrd.TheImpl.{partial_cmp-value as key_cmp}
use Rattle.text.specs.declared.record.Entry.{Entry}
use Rattle.text.specs.declared.record.Key.{Key}
use Rattle.text.specs.declared.record.Key.TheVariants as key
use Rattle.text.specs.Lines.{rank, below}
use Rattle.text.specs.Post.{capped, entry_before}

-- What the derived comparisons say

key_order : (a b : Key) → key_cmp.it a b ≡ Some (nat_cmp (rank a) (rank b))
key_order key.Root b = grind arith
key_order key.Gate b = grind arith
key_order key.Account b = grind arith
key_order key.Role b = grind arith
key_order key.Container b = grind arith
key_order key.Object b = grind arith
key_order key.Session b = grind arith
key_order key.Right b = grind arith
key_order key.Held b = grind arith
key_order key.Access b = grind arith

-- a first pair decides, if it differs
first_decides : (a b : ℕ) (o : Option Ordering) → is_some_and is_lt (partial_ordering_then (Some (nat_cmp a b)) o) ≡ ltb a b || (eqb a b && is_some_and is_lt o)
first_decides a b o = grind (arith, nat_tests)

numbers_lt : (vs ws : List ℕ) → length vs ≡ length ws → partial_lt (slice_partial_cmp (λ x y. Some (nat_cmp x y))) vs ws ≡ below vs ws
numbers_lt [] [] h = refl
numbers_lt [] (w ∷ ws) h = absurd (omega arith)
numbers_lt (v ∷ vs) [] h = absurd (omega arith)
numbers_lt (v ∷ vs) (w ∷ ws) h = first_decides v w _ ∙ ap (λ x. ltb v w || (eqb v w && x)) (numbers_lt vs ws (omega arith))

pub key_gt : (a b : Key) → partial_gt key_cmp.it a b ≡ ltb (rank b) (rank a)
key_gt a b = ap (is_some_and is_gt) (key_order a b) ∙ more (rank a) (rank b)
  where
    more : (n m : ℕ) → is_some_and is_gt (Some (nat_cmp n m)) ≡ ltb m n
    more n m = grind (arith, nat_tests)

pub entry_lt : (p e : Entry) → length p.numbers ≡ length e.numbers → partial_lt entry_cmp.it p e ≡ entry_before p e
entry_lt p e h =
    ap (λ o. is_some_and is_lt (partial_ordering_then o (slice_partial_cmp (λ x y. Some (nat_cmp x y)) p.numbers e.numbers))) (key_order p.key e.key)
    ∙ first_decides (rank p.key) (rank e.key) _
    ∙ ap (λ x. ltb (rank p.key) (rank e.key) || (eqb (rank p.key) (rank e.key) && x)) (numbers_lt p.numbers e.numbers h)

-- numbers as they are held compare as the numbers, if those of the one are not beyond
zeros : (vs ws : List ℕ) → ((j : ℕ) → get_or vs j 0 ≡ 0) → ((j : ℕ) → get_or ws j 0 ≡ 0) → below vs ws ≡ false
zeros [] ws h k = refl
zeros (v ∷ vs) [] h k = refl
zeros (v ∷ vs) (w ∷ ws) h k =
    let a = h 0 in let b = k 0 in let rest = zeros vs ws (λ j. h (suc j)) (λ j. k (suc j)) in
    grind (arith, nat_tests)

pub below_held : (vs ws ns ms : List ℕ) → length vs ≡ length ws → length ns ≡ length ms → length ns ≤ length vs → AllByRecursion (λ n. n < 2 ^ 32) ns → ((j : ℕ) → get_or vs j 0 ≡ capped (get_or ns j 0)) → ((j : ℕ) → get_or ws j 0 ≡ capped (get_or ms j 0)) → below vs ws ≡ below ns ms
below_held vs ws [] [] lv ln le small h k = zeros vs ws h k
below_held vs ws [] (m ∷ ms) lv ln le small h k = absurd (omega arith)
below_held vs ws (n ∷ ns) [] lv ln le small h k = absurd (omega arith)
below_held [] ws (n ∷ ns) (m ∷ ms) lv ln le small h k = absurd (omega arith)
below_held (v ∷ vs) [] (n ∷ ns) (m ∷ ms) lv ln le small h k = absurd (omega arith)
below_held (v ∷ vs) (w ∷ ws) (n ∷ ns) (m ∷ ms) lv ln le small h k =
    let a : v ≡ capped n = h 0 in
    let b : w ≡ capped m = k 0 in
    let s : n < 2 ^ 32 = small.0 in
    let lt : ltb v w ≡ ltb n m = grind (arith, nat_tests) in
    let eq : eqb v w ≡ eqb n m = grind (arith, nat_tests) in
    let rec = below_held vs ws ns ms (omega arith) (omega arith) (omega arith) small.1 (λ j. h (suc j)) (λ j. k (suc j)) in
    λ i. lt i || (eq i && rec i)
