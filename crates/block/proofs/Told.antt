-- Equal states, equal records.
use Rattle.std.proofs.Common.{◌≡◌, ℕ, zero, suc, ◌+◌, ◌*◌, ◌^◌, ◌<◌, Bool, true, false, ◌&&◌, ltb, ◌⊎◌, List, length, get_or, sym, refl, ap, ◌∙◌, subst, inl, inr, Option, Some, None, arith}
use Rattle.std.specs.Option.{option_map, unwrap_or}
use Rattle.std.proofs.lemmas.List.{ext_get_or}
use Rattle.std.proofs.lemmas.Bool.{cases_eq, cond-true, lt-ltb, true≢false}
use Rattle.sets.proofs.Bit.{differ_in}
use Rattle.sets.proofs.Words.{word, number_at}
use Rattle.sets.specs.Member.{bit, in_set, relates, empty_set, empty_relation}
use Rattle.sets.specs.declared.set.Set.{Set}
use Rattle.sets.specs.declared.relation.Relation.{Relation}
use Rattle.model.specs.declared.fact.Fact.TheVariants.{Lives, Held, Right, Access, Holding, Flow, Control}
use Rattle.model.specs.declared.fact.Mode.{Mode}
use Rattle.model.specs.declared.fact.Mode.TheVariants.{Read, Write, Execute, Own}
use Rattle.model.specs.Records.{State, rank}
use Rattle.block.specs.declared.block.Block.{Block}
use Rattle.block.specs.declared.records.Records.{Records}
use Rattle.block.specs.Reading.{state, at, grid, no_session}
use Rattle.block.specs.Writing.{empty}
use Rattle.block.specs.Lent.{block_state}
use Rattle.block.proofs.Sound.{Wide, Rows, Grid, SoundTables, SoundRelations}

-- ## Sets

same_word : (a b : ℕ) → a < 2 ^ 64 → b < 2 ^ 64 → ((k : ℕ) → k < 64 → bit a k ≡ bit b k) → a ≡ b
same_word a b wa wb h = go (cases_eq a b)
  where
    go : ((a ≡ b) ⊎ (a ≡ b → ⊥)) → a ≡ b
    go (inl e) = e
    go (inr ne) = let d = differ_in 64 a b wa wb ne in absurd (d.2 (h d.0 d.1))

same_set : {W : ℕ} (a b : Set W) → Wide a → Wide b → ((k : ℕ) → k < 64 * W → in_set a k ≡ in_set b k) → a ≡ b
same_set {W = W} a b wa wb h =
    λ n. record {
      words = ext_get_or 0 a.words b.words (wa.long ∙ sym wb.long)
          (λ j l. let f : j < W = omega (arith, wa.long) in same_word (word a j) (word b j) (wa.each j 0 f) (wb.each j 0 f)
          (λ k lk. sym (number_at a j k lk) ∙ h (j * 64 + k) (omega arith) ∙ number_at b j k lk)) n;
    }

-- ## Tables

same_relation : {N W : ℕ} (a b : Relation N W) → Rows a → Rows b → ((x z : ℕ) → x < N → z < 64 * W → relates a x z ≡ relates b x z) → a ≡ b
same_relation {N = N} a b ra rb h =
    λ n. record {
      rows = ext_get_or empty_set a.rows b.rows (ra.long ∙ sym rb.long)
          (λ x l. let f : x < N = omega (arith, ra.long) in same_set (get_or a.rows x empty_set) (get_or b.rows x empty_set) (ra.each x empty_set f) (rb.each x empty_set f) (λ z lz. h x z f lz)) n;
    }

-- each place is that of a mode
mode_at : (p : ℕ) → p < 4 → (m : Mode) × (rank m ≡ p)
mode_at zero h = (Read, refl)
mode_at (suc zero) h = (Write, refl)
mode_at (suc (suc zero)) h = (Execute, refl)
mode_at (suc (suc (suc zero))) h = (Own, refl)
mode_at (suc (suc (suc (suc p)))) h = absurd (omega arith)

same_grid : (xs ys : List (Relation 256 1)) → Grid xs → Grid ys → ((m : Mode) (x z : ℕ) → x < 256 → z < 64 → grid xs m x z ≡ grid ys m x z) → xs ≡ ys
same_grid xs ys gx gy h =
    ext_get_or empty_relation xs ys (gx.long ∙ sym gy.long)
    (λ p l. let f : p < 4 = omega (arith, gx.long) in let m = mode_at p f in
    same_relation (get_or xs p empty_relation) (get_or ys p empty_relation) (gx.each p empty_relation f) (gy.each p empty_relation f)
    (λ x z lx lz. subst (λ (q : ℕ). relates (get_or xs q empty_relation) x z ≡ relates (get_or ys q empty_relation) x z) m.1 (h m.0 x z lx lz)))

within : {X : Type 0} (n : ℕ) (xs : List X) (none : X) (i : ℕ) → i < n → at n xs none i ≡ get_or xs i none
within n xs none i h = cond-true (ltb i n) (get_or xs i none) none (lt-ltb i n h)

same_records : {X : Type 0} (n : ℕ) (none : X) (xs ys : List X) → length xs ≡ n → length ys ≡ n
    → ((i : ℕ) → i < n → at n xs none i ≡ at n ys none i) → xs ≡ ys
same_records n none xs ys lx ly h =
    ext_get_or none xs ys (lx ∙ sym ly)
    (λ i l. let f : i < n = omega arith in sym (within n xs none i f) ∙ h i f ∙ within n ys none i f)

-- ## The records

bounded : (x n : ℕ) (u v : Bool) → x < n → (ltb x n && u) ≡ (ltb x n && v) → u ≡ v
bounded x n u v h = go (ltb x n) (lt-ltb x n h)
  where
    go : (g : Bool) → g ≡ true → (g && u) ≡ (g && v) → u ≡ v
    go true p e = e
    go false p e = absurd (true≢false (sym p))

bounded_twice : (x n z m : ℕ) (u v : Bool) → x < n → z < m → (ltb x n && (ltb z m && u)) ≡ (ltb x n && (ltb z m && v)) → u ≡ v
bounded_twice x n z m u v hx hz e = bounded z m u v hz (bounded x n (ltb z m && u) (ltb z m && v) hx e)

module _ (a b : Records) (ta : SoundTables a.tables) (tb : SoundTables b.tables) (ra : SoundRelations a.relations) (rb : SoundRelations b.relations)
    (same : state a ≡ state b) where
  pub told : a ≡ b
  told =
      λ n. record {
        tables = record {
          gate = (same n).cards.gate;
          accounts = same_records 16 None a.tables.accounts b.tables.accounts ta.accounts tb.accounts (λ i h. ap (λ (S : State). S.cards.accounts i) same) n;
          roles = same_records 32 None a.tables.roles b.tables.roles ta.roles tb.roles (λ i h. ap (λ (S : State). S.cards.roles i) same) n;
          items = same_records 256 None a.tables.items b.tables.items ta.items tb.items (λ i h. ap (λ (S : State). S.cards.items i) same) n;
          sessions = same_records 64 no_session a.tables.sessions b.tables.sessions ta.sessions tb.sessions
              (λ i h. λ m. record { account = (same m).cards.account i; life = (same m).cards.life i; program = (same m).program i; parent = (same m).parent i }) n;
          live = same_set a.tables.live b.tables.live ta.live tb.live (λ k h. bounded k 256 _ _ h (λ m. (same m).stands (Lives k))) n;
          held = same_relation a.tables.held b.tables.held ta.held tb.held (λ x z hx hz. bounded_twice x 64 z 64 _ _ hx hz (λ m. (same m).stands (Held x z))) n;
          rights = same_grid a.tables.rights b.tables.rights ta.rights tb.rights (λ m x z hx hz. bounded_twice z 64 x 256 _ _ hz hx (λ k. (same k).stands (Right z x m))) n;
          accesses = same_grid a.tables.accesses b.tables.accesses ta.accesses tb.accesses (λ m x z hx hz. bounded_twice z 64 x 256 _ _ hz hx (λ k. (same k).stands (Access z x m))) n;
          contents = same_relation a.tables.contents b.tables.contents ta.contents tb.contents (λ x z hx hz. bounded_twice x 256 z 256 _ _ hx hz (λ m. (same m).stands (Holding x z))) n;
        };
        relations = record {
          flows = same_relation a.relations.flows b.relations.flows ra.flows rb.flows (λ x z hx hz. bounded_twice x 256 z 256 _ _ hx hz (λ m. (same m).stands (Flow x z))) n;
          control = same_relation a.relations.control b.relations.control ra.control rb.control (λ x z hx hz. bounded_twice x 64 z 64 _ _ hx hz (λ m. (same m).stands (Control x z))) n;
        };
      }

-- ## Blocks

pub told_lent : (a b : Block) (x y : Records) → a.records ≡ Some x → b.records ≡ Some y → (state x ≡ state y → x ≡ y) → block_state a ≡ block_state b → a ≡ b
told_lent a b x y ea eb told same =
    let held : Option Records → State = λ r. unwrap_or (option_map state r) empty in
    let e : x ≡ y = told (sym (ap held ea) ∙ same ∙ ap held eb) in
    λ n. record { records = (ea ∙ ap (λ (r : Records). Some r) e ∙ sym eb) n }
