-- A start has one outcome.
use Rattle.std.proofs.Common.{◌≡◌, ℕ, ◌+◌, List, [], ◌∷◌, ◌++◌, length, Ok, Err, sym, refl, ap, ◌∙◌, subst, append-nil, arith}
use Rattle.std.proofs.lemmas.Bool.{both_ways}
use Rattle.policy.specs.Order.{Order}
use Rattle.policy.specs.Rule.{Rule}
use Rattle.text.specs.declared.record.Line.{Line}
use Rattle.text.specs.declared.record.Fault.{Fault}
use Rattle.text.specs.Lines.{text, Accepted, Refused}
use Rattle.text.specs.declared.record.Refusal.{Refusal as Report}
use Rattle.text.proofs.Unique.{Stuck, line_some, stuck_same, first_unique}
use Rattle.model.specs.declared.answer.StartRefusal.{StartRefusal}
use Rattle.model.specs.declared.answer.Refusal.{Refusal}
use Rattle.model.specs.Answers.{StartAnswer}
use Rattle.model.specs.Records.{State}
use Rattle.model.specs.Needs.{Met, Fails}
use Rattle.model.specs.Flows.{Settles}
use Rattle.model.proofs.Refusals.{met_fails, fails_once}
use Rattle.model.proofs.Following.{settles_once}
use Rattle.block.specs.declared.block.Block.{Block}
use Rattle.block.specs.Lent.{started, block_state}
use Rattle.start.specs.Setup.{listed}
use Rattle.start.specs.Grounds.{asks, Clean}
use Rattle.start.specs.Starts.{Stops, refusal_for, Refuses, first, second, Begins, Start, again, refused, accepted}
use Rattle.start.specs.Laws.{OneStart}

-- ## The first reading

-- no line comes after the end of a text
ended : (ls : List Line) → Stuck ls []
ended ls l more e f r = omega (arith, line_some l more, ap length e)

-- a text is that of one list of lines
pub accepted_once : {bytes : List ℕ} {ls ms : List Line} → Accepted bytes ls → Accepted bytes ms → ls ≡ ms
accepted_once {bytes} {ls} {ms} a b =
    (stuck_same ls ms [] [] (append-nil (text ls) ∙ sym a.whole ∙ b.whole ∙ sym (append-nil (text ms))) a.sound b.sound (ended ls) (ended ms)).0

accepted_refused : (bytes : List ℕ) (ls : List Line) (why : Fault) (n : ℕ) → Accepted bytes ls → Refused bytes why n → ⊥
accepted_refused bytes ls why n a r =
    let e = first_unique bytes (Ok (length ls)) (Err (record { fault = why; line = n })) (ls, a, refl) r in
    let z : ◌≡◌ {A = ℕ} 0 1 = cc in
    omega arith

refused_once : (bytes : List ℕ) (why why' : Fault) (n n' : ℕ) → Refused bytes why n → Refused bytes why' n' → (why ≡ why') × (n ≡ n')
refused_once bytes why why' n n' r s =
    let r₁ : Report = record { fault = why; line = n } in
    let r₂ : Report = record { fault = why'; line = n' } in
    let e = first_unique bytes (Err r₁) (Err r₂) r s in
    let same : r₁ ≡ r₂ = cc in
    (ap (λ (r : Report). r.fault) same, ap (λ (r : Report). r.line) same)

-- ## The second reading

module _ (o : Order) (h : Rule) where
  -- the needs of each clean line are met
  clean_line : (all : State) (later : List Line) (l : Line) (earlier : List Line) → Clean o h all (later ++ l ∷ earlier) → Met (asks o h all (listed earlier) l)
  clean_line all [] l earlier c = c.0
  clean_line all (k ∷ later) l earlier c = clean_line all later l earlier c.1

  -- so none of them is the first that fails
  clean_fails : (all : State) (lines later : List Line) (l : Line) (earlier : List Line) (a : Refusal) → lines ≡ later ++ l ∷ earlier → Clean o h all lines → Fails (asks o h all (listed earlier) l) a → ⊥
  clean_fails all lines later l earlier a e c f =
      met_fails (asks o h all (listed earlier) l) a (clean_line all later l earlier (subst (Clean o h all) e c)) f

  -- one line is the first that fails
  fails_one : (all : State) (p : List Line) (l : Line) (x : List Line) (q : List Line) (m : Line) (y : List Line) (a b : Refusal) → p ++ l ∷ x ≡ q ++ m ∷ y → Clean o h all x → Clean o h all y → Fails (asks o h all (listed x) l) a → Fails (asks o h all (listed y) m) b → (a ≡ b) × (length x ≡ length y)
  fails_one all [] l x [] m y a b e c d f g =
      let i : l ≡ m = cc in
      let j : x ≡ y = cc in
      (fails_once (asks o h all (listed y) m) a b (subst (λ (k : Line). Fails (asks o h all (listed y) k) a) i (subst (λ (z : List Line). Fails (asks o h all (listed z) l) a) j f)) g, ap length j)
  fails_one all [] l x (k ∷ q) m y a b e c d f g = let i : x ≡ q ++ m ∷ y = cc in absurd (clean_fails all x q m y b i c g)
  fails_one all (k ∷ p) l x [] m y a b e c d f g = let i : y ≡ p ++ l ∷ x = cc in absurd (clean_fails all y p l x a i d f)
  fails_one all (k ∷ p) l x (j ∷ q) m y a b e c d f g = fails_one all p l x q m y a b (cc) c d f g

  pub stops_once : {lines : List Line} {a b : Refusal} {n m : ℕ} → Stops o h lines a n → Stops o h lines b m → (a ≡ b) × (n ≡ m)
  stops_once {lines} {a} {b} s t =
      let e = fails_one (listed lines) s.later s.line s.earlier t.later t.line t.earlier a b (sym s.whole ∙ t.whole) s.clean t.clean s.fails t.fails in
      (e.0, s.number ∙ (ap (λ k. k + 1) e.1 ∙ sym t.number))

  pub clean_stops : {lines : List Line} {a : Refusal} {n : ℕ} → Clean o h (listed lines) lines → Stops o h lines a n → ⊥
  clean_stops {lines} {a} c s = clean_fails (listed lines) lines s.later s.line s.earlier a s.whole c s.fails

  -- ## Both readings

  pub refuses_once : {bytes : List ℕ} {a b : StartRefusal} → Refuses o h bytes a → Refuses o h bytes b → a ≡ b
  refuses_once {bytes} (first why {n} r) (first why' {n = n'} s) =
      let e = refused_once bytes why why' n n' r s in λ i. record { refusal = refusal_for (e.0 i); line = e.1 i }
  refuses_once {bytes} (first why {n} r) (second {ls} read s) = absurd (accepted_refused bytes ls why n read r)
  refuses_once {bytes} (second {ls} read s) (first why {n} r) = absurd (accepted_refused bytes ls why n read r)
  refuses_once (second {ls} {why} {n} read s) (second {ls = ms} {why = why'} {n = n'} read' t) =
      let e = stops_once s (subst (λ (ks : List Line). Stops o h ks why' n') (accepted_once read' read) t) in
      λ i. record { refusal = e.0 i; line = e.1 i }

  pub begins_once : {bytes : List ℕ} {S S' : State} → Begins o h bytes S → Begins o h bytes S' → S ≡ S'
  begins_once {S'} b c =
      settles_once b.settled (subst (λ (ks : List Line). Settles (listed ks) S') (accepted_once c.read b.read) c.settled)

  pub begins_refuses : {bytes : List ℕ} {S : State} {a : StartRefusal} → Begins o h bytes S → Refuses o h bytes a → ⊥
  begins_refuses {bytes} b (first why {n} r) = accepted_refused bytes b.lines why n b.read r
  begins_refuses b (second {ls} {why} {n} read s) =
      clean_stops b.clean (subst (λ (ks : List Line). Stops o h ks why n) (accepted_once read b.read) s)

  once : {b b₁ b₂ : Block} {bytes : List ℕ} {a₁ a₂ : StartAnswer} → Start o h b bytes a₁ b₁ → Start o h b bytes a₂ b₂ → (a₁ ≡ a₂) × (started b₁ ≡ started b₂) × (block_state b₁ ≡ block_state b₂)
  once (again t) (again u) = (refl, refl, refl)
  once {b} (again t) (refused f r) = absurd (both_ways (started b) f t)
  once {b} (again t) (accepted f s c) = absurd (both_ways (started b) f t)
  once {b} (refused f r) (again t) = absurd (both_ways (started b) f t)
  once (refused f r) (refused g s) = (ap Err (refuses_once r s), refl, refl)
  once (refused f r) (accepted g s c) = absurd (begins_refuses c r)
  once {b} (accepted f s c) (again t) = absurd (both_ways (started b) f t)
  once (accepted f s c) (refused g r) = absurd (begins_refuses c r)
  once (accepted f s c) (accepted g t d) = (refl, s ∙ sym t, begins_once c d)

  pub start_once : OneStart o h
  start_once b b₁ b₂ bytes a₁ a₂ s t = once s t
