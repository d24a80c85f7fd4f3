-- What stands, from the tests of each number and each two numbers below 256.
use Rattle.std.proofs.Common.{◌≡◌, ℕ, ◌<◌, Bool, true, false, not, ◌&&◌, ◌||◌, T, eqb, ltb, arith, lit<, MatchBool, subst}
use Rattle.std.specs.Prelude.{⊤}
use Rattle.model.specs.declared.fact.Fact.{Fact}
use Rattle.model.specs.declared.fact.Fact.TheVariants.{Lives, Held, Right, Access, Holding, Flow, Control}
use Rattle.model.specs.declared.fact.Mode.{Mode}
use Rattle.model.specs.declared.fact.Mode.TheVariants.{Read, Write, Execute, Own}
use Rattle.model.specs.Records.{State, Stands, level}
use Rattle.model.specs.Laws.{StandsIn}
use Rattle.block.specs.declared.records.Records.{Records}
use Rattle.block.specs.Reading.{state}
use Rattle.bench.specs.Standing.{too, item_too, mode_too, pair_too, RowToo}

-- ## Tests

front : (x y : Bool) → T (x && y) → T x
front true y h = tt
front false y h = elim h [ ]

back : (x y : Bool) → T (x && y) → T y
back true y h = h
back false y h = elim h [ ]

implied : (x y : Bool) → T (not x || y) → T x → T y
implied true y h t = h
implied false y h t = elim t [ ]

-- numbers that two tests bound
both : (a b m n : ℕ) (z : Bool) → T (ltb a m && (ltb b n && z)) → (a < m) × (b < n)
both a b m n z h = (lit< (front (ltb a m) (ltb b n && z) h), lit< (front (ltb b n) z (back (ltb a m) (ltb b n && z) h)))

-- what one case of a test says
pub on_true : (P Q : Type 0) (r : Bool) → MatchBool r P Q → T r → P
on_true P Q true m t = m
on_true P Q false m t = elim t [ ]

-- ## Pairs

module _ (M N : State) (i j : ℕ) (h : T (pair_too M N i j)) where
  fourth : T (mode_too M N i j Own && (too M N (Held i j) && (too M N (Holding i j) && (too M N (Flow i j) && too M N (Control i j)))))
  fourth = back (mode_too M N i j Execute) _ (back (mode_too M N i j Write) _ (back (mode_too M N i j Read) _ h))

  rest : T (too M N (Held i j) && (too M N (Holding i j) && (too M N (Flow i j) && too M N (Control i j))))
  rest = back (mode_too M N i j Own) _ fourth

  mode : (m : Mode) → T (mode_too M N i j m)
  mode Read = front (mode_too M N i j Read) _ h
  mode Write = front (mode_too M N i j Write) _ (back (mode_too M N i j Read) _ h)
  mode Execute = front (mode_too M N i j Execute) _ (back (mode_too M N i j Write) _ (back (mode_too M N i j Read) _ h))
  mode Own = front (mode_too M N i j Own) _ fourth

  held : T (too M N (Held i j))
  held = front (too M N (Held i j)) _ rest

  holding : T (too M N (Holding i j))
  holding = front (too M N (Holding i j)) _ (back (too M N (Held i j)) _ rest)

  ends : T (too M N (Flow i j) && too M N (Control i j))
  ends = back (too M N (Holding i j)) _ (back (too M N (Held i j)) _ rest)

-- ## All facts

pub row : (M N : State) (i : ℕ) (r : Bool) → true ≡ item_too M N i → (T r → (j : ℕ) → j < 256 → T (pair_too M N i j))
    → MatchBool r (RowToo M N i) ⊤
row M N i true e p = (subst T e tt, p tt)
row M N i false e p = tt

module _ (a b : Records) (all : (i : ℕ) → i < 256 → RowToo (state a) (state b) i) where
  pair : (i j : ℕ) → i < 256 → j < 256 → T (pair_too (state a) (state b) i j)
  pair i j l k = (all i l).1 j k

  -- what an item's test says
  item : (i : ℕ) → Stands (state a) (Lives i) → Stands (state b) (Lives i) × (level (state b) i ≡ level (state a) i)
  item i t =
      let h = implied ((state a).stands (Lives i)) _ (all i (lit< (front (ltb i 256) _ t))).0 t in
      (front ((state b).stands (Lives i)) _ h, same (back ((state b).stands (Lives i)) _ h))
    where
      same : {m n : ℕ} → T (eqb m n) → m ≡ n
      same {m} {n} e = grind arith

  fact : (f : Fact) → Stands (state a) f → Stands (state b) f
  fact (Lives i) t = (item i t).0
  fact (Held s r) t =
      let l = both s r 64 64 _ t in
      implied ((state a).stands (Held s r)) _ (held (state a) (state b) s r (pair s r (omega arith) (omega arith))) t
  fact (Right r i m) t =
      let l = both r i 64 256 _ t in
      implied ((state a).stands (Right r i m)) _ (front (too (state a) (state b) (Right r i m)) _ (mode (state a) (state b) r i (pair r i (omega arith) (omega arith)) m)) t
  fact (Access s i m) t =
      let l = both s i 64 256 _ t in
      implied ((state a).stands (Access s i m)) _ (back (too (state a) (state b) (Right s i m)) _ (mode (state a) (state b) s i (pair s i (omega arith) (omega arith)) m)) t
  fact (Holding c e) t =
      let l = both c e 256 256 _ t in
      implied ((state a).stands (Holding c e)) _ (holding (state a) (state b) c e (pair c e (omega arith) (omega arith))) t
  fact (Flow x y) t =
      let l = both x y 256 256 _ t in
      implied ((state a).stands (Flow x y)) _ (front (too (state a) (state b) (Flow x y)) _ (ends (state a) (state b) x y (pair x y (omega arith) (omega arith)))) t
  fact (Control s u) t =
      let l = both s u 64 64 _ t in
      implied ((state a).stands (Control s u)) _ (back (too (state a) (state b) (Flow s u)) _ (ends (state a) (state b) s u (pair s u (omega arith) (omega arith)))) t

  pub stands_within : StandsIn (state a) (state b)
  stands_within = record { items = item; facts = fact }
