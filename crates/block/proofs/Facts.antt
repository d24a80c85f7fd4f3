-- A right or an access comes or falls.
use Rattle.std.proofs.Common.{◌≡◌, ℕ, ◌<◌, Bool, cond, ◌&&◌, eqb, List, length, get_or, set, arith}
use Rattle.std.proofs.lemmas.List.{get_or-set_same, get_or-set_other}
use Rattle.std.proofs.lemmas.Bool.Decides.{nat_tests}
use Rattle.sets.specs.Member.{relates, empty_relation}
use Rattle.sets.specs.declared.relation.Relation.{Relation}
use Rattle.model.specs.declared.fact.Fact.{Fact}
use Rattle.model.specs.declared.fact.Fact.TheVariants.{Right, Access}
use Rattle.model.specs.declared.fact.Mode.{Mode}
use Rattle.model.specs.Records.{rank}
use Rattle.block.specs.declared.records.Records.{Records}
use Rattle.block.specs.Reading.{state, Placed}
use Rattle.block.specs.Writing.{adding, removing}

-- the records with other rights and accesses
abbrev with_modes : Records → List (Relation 256 1) → List (Relation 256 1) → Records
with_modes b rights accesses =
    record {
      tables = record { gate = b.tables.gate; accounts = b.tables.accounts; roles = b.tables.roles; items = b.tables.items; sessions = b.tables.sessions; live = b.tables.live; held = b.tables.held; rights = rights; accesses = accesses; contents = b.tables.contents };
      relations = b.relations;
    }

-- number k of row i at the mode is as told, and all else is as it was
abbrev Put : Mode → ℕ → ℕ → Bool → List (Relation 256 1) → List (Relation 256 1) → Type 0
Put mode i k told old new =
    (p x z : ℕ) → relates (get_or new p empty_relation) x z ≡ cond (eqb p (rank mode) && (eqb x i && eqb z k)) told (relates (get_or old p empty_relation) x z)

pub put_at : (tables : List (Relation 256 1)) (mode : Mode) (i k : ℕ) (told : Bool) (j : ℕ) (new : Relation 256 1) → j ≡ rank mode → j < length tables
    → ((x z : ℕ) → relates new x z ≡ cond (eqb x i && eqb z k) told (relates (get_or tables j empty_relation) x z)) → Put mode i k told tables (set tables j new)
put_at tables mode i k told j new e h put p x z = grind (arith, nat_tests, get_or-set_same, get_or-set_other)

module _ (b : Records) (f : Fact) (placed : Placed f) (told : Bool) (k i : ℕ) (mode : Mode) (tables : List (Relation 256 1)) where
  pub right : f ≡ Right k i mode → Put mode i k told b.tables.rights tables
      → state (with_modes b tables b.tables.accesses) ≡ cond told (adding f (state b)) (removing f (state b))
  right is new = grind (arith, nat_tests)

  pub access : f ≡ Access k i mode → Put mode i k told b.tables.accesses tables
      → state (with_modes b b.tables.rights tables) ≡ cond told (adding f (state b)) (removing f (state b))
  access is new = grind (arith, nat_tests)
