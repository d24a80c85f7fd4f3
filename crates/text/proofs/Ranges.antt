-- Lines as they are held, tested. Assumes nothing.
use Rattle.std.proofs.Common.{◌≡◌, ℕ, suc, ◌^◌, ◌<◌, Bool, true, false, cond, ◌&&◌, ◌||◌, eqb, ltb, List, [], ◌∷◌, length, get_or, sym, refl, ap, ◌∙◌, arith}
use Rattle.std.specs.List.{AllByRecursion}
use Rattle.std.proofs.lemmas.Bool.{eqb-true, le-ltb}
use Rattle.std.proofs.lemmas.Bool.Decides.{nat_tests}
use Rattle.text.specs.declared.record.Key.{Key}
use Rattle.text.specs.declared.record.Key.TheVariants as key
use Rattle.text.specs.declared.record.Line.{Line}
use Rattle.text.specs.declared.record.Entry.{Entry}
use Rattle.text.specs.Lines.{key_of, numbers, rank, below, before, follows, in_range}
use Rattle.text.specs.Post.{arity, capped, Keeps, entry_before, entry_follows, range_at, entry_in_range}
use Rattle.text.proofs.Bodies.{numbers_long, arity_some}
use Rattle.text.proofs.Orders.{below_held}

-- the tests are the same on numbers as they are held
range_capped : (k : Key) (a b c d e : ℕ) → range_at k (capped a) (capped b) (capped c) (capped d) (capped e) ≡ range_at k a b c d e
range_capped key.Root a b c d e = grind (arith, nat_tests)
range_capped key.Gate a b c d e = grind (arith, nat_tests)
range_capped key.Account a b c d e = grind (arith, nat_tests)
range_capped key.Role a b c d e = grind (arith, nat_tests)
range_capped key.Container a b c d e = grind (arith, nat_tests)
range_capped key.Object a b c d e = grind (arith, nat_tests)
range_capped key.Session a b c d e = grind (arith, nat_tests)
range_capped key.Right a b c d e = grind (arith, nat_tests)
range_capped key.Held a b c d e = grind (arith, nat_tests)
range_capped key.Access a b c d e = grind (arith, nat_tests)

range_line : (l : Line) → range_at (key_of l) (get_or (numbers l) 0 0) (get_or (numbers l) 1 0) (get_or (numbers l) 2 0) (get_or (numbers l) 3 0) (get_or (numbers l) 4 0) ≡ in_range l
range_line l = grind arith

pub range_held : (e : Entry) (l : Line) → Keeps e l → entry_in_range e ≡ in_range l
range_held e l h = (λ i. range_at (h.key i) (h.held 0 i) (h.held 1 i) (h.held 2 i) (h.held 3 i) (h.held 4 i)) ∙ range_capped (key_of l) _ _ _ _ _ ∙ range_line l

-- no number of a line in range is beyond
pub small : (l : Line) → in_range l ≡ true → AllByRecursion (λ n. n < 2 ^ 32) (numbers l)
small l h = grind (arith, nat_tests)

-- each rank is that of one key
rank_same : (k j : Key) → rank k ≡ rank j → k ≡ j
rank_same k j e = grind arith

-- behind the same test
and_same : (t a b : Bool) → (t ≡ true → a ≡ b) → t && a ≡ t && b
and_same true a b h = h refl
and_same false a b h = refl

pub before_held : (p e : Entry) (l m : Line) → Keeps p l → AllByRecursion (λ n. n < 2 ^ 32) (numbers l) → Keeps e m → entry_before p e ≡ before l m
before_held p e l m h s k =
    (λ i. ltb (rank (h.key i)) (rank (k.key i)) || (eqb (rank (h.key i)) (rank (k.key i)) && below p.numbers e.numbers))
    ∙ ap (λ t. ltb (rank (key_of l)) (rank (key_of m)) || t)
    (and_same (eqb (rank (key_of l)) (rank (key_of m))) (below p.numbers e.numbers) (below (numbers l) (numbers m))
    (λ t.
    let same = rank_same (key_of l) (key_of m) (eqb-true _ _ t) in
    let long : length (numbers l) ≡ length (numbers m) = numbers_long l ∙ ap arity same ∙ sym (numbers_long m) in
    below_held p.numbers e.numbers (numbers l) (numbers m) (h.places ∙ sym k.places) long (omega (arith, numbers_long l, (arity_some (key_of l)).1, h.places)) s h.held k.held))

-- the last of the lines, as it is held
abbrev pub Last : List Line → Entry → Type 0
Last [] p = Unit {0}
Last (l ∷ ls) p = Keeps p l × AllByRecursion (λ n. n < 2 ^ 32) (numbers l)

pub follows_held : (ls : List Line) (p e : Entry) (m : Line) → Last ls p → Keeps e m → entry_follows (length ls) p e ≡ follows ls m
follows_held [] p e m h k = ap (λ t. eqb (rank t) 0) k.key
follows_held (l ∷ []) p e m h k = ap (λ t. eqb (rank t) 1) k.key
follows_held (l ∷ q ∷ ls) p e m h k =
    ap (λ t. cond t (eqb (rank e.key) (suc (suc (length ls)))) (ltb 1 (rank e.key) && entry_before p e)) (le-ltb (suc (suc (length ls))) 2 (omega arith))
    ∙ (λ i. ltb 1 (rank (k.key i)) && before_held p e l m h.0 h.1 k i)
