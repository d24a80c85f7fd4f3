-- What their type tells of records: how long its tables are, and how wide its sets.
use Rattle.std.proofs.Common.{◌≡◌, ℕ, zero, suc, ◌^◌, ◌<◌, List, [], ◌∷◌, length, get_or, arith}
use mir.Val.{Val}
use denote.RattleType.{RattleType}
use denote.Laws.{Is}
use denote.Array.{Array, each}
use denote.Param.{number}
use denote.Shadow.{shadow}
use denote.Struct.Declared.{row}
use denote.Struct.Field.{u64-field}
use Rattle.sets.specs.declared.set.Set.{Set}
use Rattle.sets.specs.declared.relation.Relation.{Relation}
use Rattle.sets.specs.contracts.set.Set.{the_type as set-type}
use Rattle.sets.specs.contracts.relation.Relation.{the_type as relation-type}
use Rattle.block.specs.declared.tables.Tables.{Tables}
use Rattle.block.specs.declared.relations.Relations.{Relations}
use Rattle.block.specs.contracts.tables.Tables.{the_type as tables-type}
use Rattle.block.specs.contracts.relations.Relations.{the_type as relations-type}

-- a table of n, with P of each
pub record Table {X : Type 0} (P : X → Type 0) (n : ℕ) (xs : List X) : Type 0 where
  pub long : length xs ≡ n
  pub each : (k : ℕ) (d : X) → k < n → P (get_or xs k d)

module _ (R : RattleType) (P : R.Denot → Type 0) (one : (x : R.Denot) (vs : List Val) → Is R x vs → P x) where
  each_is : (xs : List R.Denot) (us : List Val) → shadow (each R.Denot R.own_val xs us) → (k : ℕ) (d : R.Denot) → k < length xs → P (get_or xs k d)
  each_is [] us p k d h = absurd (omega arith)
  each_is (x ∷ xs) [] p k d h = absurd p
  each_is (x ∷ xs) (u ∷ us) p zero d h = one x (u ∷ []) p.0
  each_is (x ∷ xs) (u ∷ us) p (suc k) d h = each_is xs us p.1 k d (omega arith)

  table_is : (n : ℕ) (xs : List R.Denot) (vs : List Val) → Is (Array R n) xs vs → Table P n xs
  table_is n xs vs p = record { long = p.1.0.1; each = λ k d h. each_is xs p.0 p.1.1 k d (omega (arith, p.1.0.1)) }

abbrev Word : ℕ → Type 0
Word w = w < 2 ^ 64

word : (w : ℕ) (vs : List Val) → Is u64-field.row w vs → Word w
word w vs p = omega arith

abbrev pub Wide : {W : ℕ} → Set W → Type 0
Wide {W = W} s = Table Word W s.words

abbrev set_row : ℕ → RattleType
set_row W = row (set-type (number W))

wide : (W : ℕ) (s : Set W) (vs : List Val) → Is (set_row W) s vs → Wide s
wide W s vs p = table_is u64-field.row Word word W s.words _ p.1.1.0

abbrev pub Rows : {N W : ℕ} → Relation N W → Type 0
Rows {N = N} r = Table Wide N r.rows

abbrev relation_row : ℕ → ℕ → RattleType
relation_row N W = row (relation-type (number N) (number W))

rows : (N W : ℕ) (r : Relation N W) (vs : List Val) → Is (relation_row N W) r vs → Rows r
rows N W r vs p = table_is (set_row W) Wide (wide W) N r.rows _ p.1.1.0

abbrev pub Grid : List (Relation 256 1) → Type 0
Grid = Table Rows 4

grid : (tables : List (Relation 256 1)) (vs : List Val) → Is (Array (relation_row 256 1) 4) tables vs → Grid tables
grid = table_is (relation_row 256 1) Rows (rows 256 1) 4

pub record SoundTables (t : Tables) : Type 0 where
  pub accounts : length t.accounts ≡ 16
  pub roles : length t.roles ≡ 32
  pub items : length t.items ≡ 256
  pub sessions : length t.sessions ≡ 64
  pub live : Wide t.live
  pub held : Rows t.held
  pub rights : Grid t.rights
  pub accesses : Grid t.accesses
  pub contents : Rows t.contents

pub sound_tables : (t : Tables) (vs : List Val) → Is (row tables-type) t vs → SoundTables t
sound_tables t vs p =
    record {
      accounts = omega arith;
      roles = omega arith;
      items = omega arith;
      sessions = omega arith;
      live = wide 4 t.live _ p.1.1.1.1.1.1.1.0;
      held = rows 64 1 t.held _ p.1.1.1.1.1.1.1.1.0;
      rights = grid t.rights _ p.1.1.1.1.1.1.1.1.1.0;
      accesses = grid t.accesses _ p.1.1.1.1.1.1.1.1.1.1.0;
      contents = rows 256 4 t.contents _ p.1.1.1.1.1.1.1.1.1.1.1.0;
    }

pub record SoundRelations (r : Relations) : Type 0 where
  pub flows : Rows r.flows
  pub control : Rows r.control

pub sound_relations : (r : Relations) (vs : List Val) → Is (row relations-type) r vs → SoundRelations r
sound_relations r vs p = record { flows = rows 256 4 r.flows _ p.1.1.0; control = rows 64 1 r.control _ p.1.1.1.0 }
