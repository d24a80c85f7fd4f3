-- A fact stands only where the tables have a place for it.
use Rattle.std.proofs.Common.{◌≡◌, ℕ, ◌<◌, Bool, true, false, ◌&&◌, T, ltb, sym, refl, subst, ltb→lt, lt→ltb}
use Rattle.model.specs.declared.fact.Fact.TheVariants.{Access, Holding, Flow, Control}
use Rattle.model.specs.declared.fact.Mode.{Mode}
use Rattle.model.specs.Records.{Stands}
use Rattle.block.specs.declared.records.Records.{Records}
use Rattle.block.specs.declared.tables.Tables.{Tables}
use Rattle.block.specs.declared.relations.Relations.{Relations}
use Rattle.block.specs.Reading.{grid, state}
use Rattle.sets.specs.Member.{relates}
use Rattle.flows.specs.Spread.{Has}

pub is_true : (b : Bool) → T b → b ≡ true
is_true true h = refl
is_true false h = absurd h

pub from_true : (b : Bool) → b ≡ true → T b
from_true b e = subst T (sym e) tt

pub granted : (b : Bool) → true ≡ b → T b
granted b e = subst T e tt

pub denied : {A : Type 0} (b : Bool) → false ≡ b → T b → A
denied b e h = absurd (subst T (sym e) h)

apart : (a b : Bool) → T (a && b) → T a × T b
apart true b h = (tt, h)
apart false b h = absurd h

together : (a b : Bool) → T a → T b → T (a && b)
together true b h k = k
together false b h k = absurd h

-- a test of x below n and y below m
pub placed : (n m x y : ℕ) (b : Bool) → x < n → y < m → b ≡ true → T (ltb x n && (ltb y m && b))
placed n m x y b i j e = together (ltb x n) (ltb y m && b) (lt→ltb x n i) (together (ltb y m) b (lt→ltb y m j) (from_true b e))

pub parts : (n m x y : ℕ) (b : Bool) → T (ltb x n && (ltb y m && b)) → (x < n) × (y < m) × (b ≡ true)
parts n m x y b h =
    let v = apart (ltb x n) (ltb y m && b) h in
    let w = apart (ltb y m) b v.1 in (ltb→lt x n v.0, ltb→lt y m w.0, is_true b w.1)

pub of_flow : (t : Tables) (r : Relations) (a b : ℕ) → Has t r (Flow a b) → (a < 256) × (b < 256) × (relates r.flows a b ≡ true)
of_flow t r a b = parts 256 256 a b (relates r.flows a b)

pub of_control : (t : Tables) (r : Relations) (s u : ℕ) → Has t r (Control s u) → (s < 64) × (u < 64) × (relates r.control s u ≡ true)
of_control t r s u = parts 64 64 s u (relates r.control s u)

pub of_access : (t : Tables) (r : Relations) (s e : ℕ) (m : Mode) → Has t r (Access s e m) → (s < 64) × (e < 256) × (grid t.accesses m e s ≡ true)
of_access t r s e m = parts 64 256 s e (grid t.accesses m e s)

pub of_holding : (b : Records) (c e : ℕ) → Stands (state b) (Holding c e) → (c < 256) × (e < 256) × (relates b.tables.contents c e ≡ true)
of_holding b c e = parts 256 256 c e (relates b.tables.contents c e)
