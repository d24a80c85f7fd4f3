-- What `any` and `all` tell of the numbers below n.
use Rattle.std.proofs.Common.{◌≡◌, ℕ, ◌+◌, ◌<◌, ◌≤◌, zero, suc, Bool, true, false, ◌||◌, List, Option, length, slice_index_or, refl, ◌∙◌, subst, ⊎_elim, arith}
use Rattle.std.proofs.lemmas.Bool.{cases_lt}
use Rattle.std.proofs.lemmas.List.FromFn.{length-range_with_len, get_or-range_with_len}
use Rattle.std.proofs.iter.Yields.{nat_range_steps}
use Rattle.std.proofs.lemmas.Iterator.{YieldsList-from_range}
use Rattle.std.proofs.lemmas.Iterator.Search.{any_from_yields_List}
use Rattle.std.specs.declared.ops.Range.{Range}
use Rattle.std.specs.Bool.{MatchBool}
use Rattle.std.specs.Fn.{Called}
use Rattle.std.specs.Iterator.{YieldsThen}
use Rattle.std.specs.List.{range_with_len, list_any, FoldsTo, AllWithin, HoldsAt}
use Rattle.std.specs.Option.{MatchOption}
use denote.Param.Members.{Mut}

-- ## Any

-- a test passes the number k, or none from a up to b
abbrev Found : (ℕ → Bool) → Bool → ℕ → ℕ → Type 0
Found test r a b = MatchBool r ((k : ℕ) × (test k ≡ true)) ((k : ℕ) → a ≤ k → k < b → test k ≡ false)

first : (test : ℕ → Bool) (a b : ℕ) (t r : Bool) → test a ≡ t → Found test r (a + 1) b → Found test (t || r) a b
first test a b true r e f = (a, e)
first test a b false true e f = f
first test a b false false e f = λ k l h. ⊎_elim (λ (s : a < k). f k (omega arith) h) (λ (s : k ≤ a). let same : k ≡ a = omega arith in rw same e) (cases_lt a k)

any_of : (test : ℕ → Bool) (n a b : ℕ) → a + n ≡ b → Found test (list_any test (range_with_len a n)) a b
any_of test zero a b e = λ k l h. absurd (omega arith)
any_of test (suc n) a b e = first test a b (test a) (list_any test (range_with_len (a + 1) n)) refl (any_of test n (a + 1) b (omega arith))

pub any_below : {F : Type 0} {g : Mut F (ℕ × Unit {0}) Bool} {s : Range ℕ} (n : ℕ) (test : ℕ → Bool) (u : Range ℕ) (f : F) (r : Bool) → (xs : List ℕ) × (o : Option ℕ) × (j : F) × YieldsThen nat_range_steps s xs o u × FoldsTo (λ p x q. Called g p (x, tt) false q) f xs j × MatchOption o (r ≡ false) (λ x. (r ≡ true) × ((h : F) × Called g j (x, tt) true h)) → s ≡ record { start = 0; end = n } → ((x : ℕ) (b : Bool) (q : F) → Called g f (x, tt) b q → (q ≡ f) × (b ≡ test x)) → Found test r 0 n
any_below n test u f r ran whole tested =
    rw (any_from_yields_List test u f r ran (YieldsList-from_range 0 n n whole (omega arith)) tested) (any_of test n 0 n (omega arith))

-- ## All

-- the number at place k
at : (n k : ℕ) → k < n → slice_index_or (range_with_len 0 n) k 0 ≡ k
at n k l = get_or-range_with_len 0 n k 0 l ∙ (omega arith)

pub all_below : (n : ℕ) (Yes No : ℕ → Type 0) (r : Bool) → MatchBool r (AllWithin Yes (range_with_len 0 n) 0 (length (range_with_len 0 n))) ((k : ℕ) × (k < length (range_with_len 0 n)) × HoldsAt No (range_with_len 0 n) k) → MatchBool r ((k : ℕ) → k < n → Yes k) ((k : ℕ) × (k < n) × No k)
all_below n Yes No true m = λ k l. subst Yes (at n k l) (m k 0 (omega arith) (omega (arith, length-range_with_len 0 n)))
all_below n Yes No false m =
    let below : m.0 < n = omega (arith, m.1, length-range_with_len 0 n) in
    (m.0, below, subst No (at n m.0 below) (m.2 0))
