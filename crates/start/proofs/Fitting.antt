-- What an accepted text begins keeps to the level conditions, and stands with all that follows.
use Rattle.std.proofs.Common.{◌≡◌, ℕ, Bool, true, false, cond, not, ◌||◌, T, List, [], ◌∷◌, Some, None, Option, is_some, IsSome, unwrap_or, sym, refl, ◌∙◌, subst, ⊎_elim}
use Rattle.std.proofs.lemmas.Bool.{false≢true}
use Rattle.policy.specs.Order.{Order}
use Rattle.policy.specs.Rule.{Rule}
use Rattle.text.specs.declared.record.Line.{Line}
use Rattle.text.specs.declared.record.Line.TheVariants as line
use Rattle.text.specs.Lines.{follows, in_range, entity_in_range, Sound as InOrder}
use Rattle.model.specs.declared.fact.Fact.{Fact}
use Rattle.model.specs.declared.fact.Fact.TheVariants.{Lives, Held, Right, Access, Holding}
use Rattle.model.specs.declared.record.Item.{Item}
use Rattle.model.specs.Records.{Cards, State, Stands, no_item, item_of, mark_of, same, root}
use Rattle.model.specs.Form.{mode_of}
use Rattle.model.specs.Needs.{is_container, Met}
use Rattle.model.specs.Effects.{put, live_item}
use Rattle.model.specs.Laws.{Settled, Fits, Sound}
use Rattle.model.proofs.Tests.{parts, either}
use Rattle.model.proofs.Facts.{same_equal}
use Rattle.model.proofs.Following.{settled}
use Rattle.model.proofs.Levels.{put_new, put_old, bounds, fits_derived}
use Rattle.start.specs.Setup.{again, plus, with, listed}
use Rattle.start.specs.Grounds.{asks, container, Clean}
use Rattle.start.specs.Starts.{Begins}

-- ## Items stay

-- items used before are as they were
abbrev Kept : (ℕ → Option Item) → (ℕ → Option Item) → Type 0
Kept A B = (i : ℕ) → IsSome (A i) → B i ≡ A i

kept_on : {A B C : ℕ → Option Item} → Kept A B → Kept B C → Kept A C
kept_on {A} {B} {C} p q i u = q i (rw (p i u) u) ∙ p i u

-- so they are beside one under a number that was free
kept_put : (n : ℕ) (new : Item) (A : ℕ → Option Item) → T (not (is_some (A n))) → Kept A (put n (Some new) A)
kept_put n new A free i u =
    put_old n (Some new) A i (λ e. absurd (rw (subst (λ (k : ℕ). IsSome (A k)) e u) at free))

-- and that one stays too
new_kept : (n : ℕ) (new : Item) (A B : ℕ → Option Item) → Kept (put n (Some new) A) B → B n ≡ Some new
new_kept n new A B k = k n (rw (put_new n (Some new) A) refl) ∙ put_new n (Some new) A

-- a container is used
used : (i : Option Item) → T (is_container (unwrap_or i no_item)) → IsSome i
used None c = absurd c
used (Some item) c = refl

-- a root comes after no line
root_first : (level mark : ℕ) (ls : List Line) → follows ls (line.Root level mark) ≡ true → ls ≡ []
root_first level mark [] f = refl
root_first level mark (r ∷ []) f = absurd (false≢true f)
root_first level mark (p ∷ q ∷ ls) f = absurd (false≢true f)

chosen : (b : Bool) (S R : State) → T (not b) → cond b S R ≡ R
chosen true S R t = absurd t
chosen false S R t = refl

-- what holds of a fact that is added, and of those that stood, holds of all that stand then
with_fact : (P : Fact → Type 0) (f g : Fact) (b : Bool) → P f → (T b → P g) → T (same g f || b) → P g
with_fact P f g b p k t = ⊎_elim (λ s. subst P (sym (same_equal g f s)) p) k (either (same g f) b t)

-- ## Facts fit

module _ (o : Order) (h : Rule) (all : State) where
  -- a line whose needs are met defines a number that was free
  free : (l : Line) (S : State) → Met (asks o h all S l) → T (not (again l S))
  free (line.Root level mark) S m = tt
  free (line.Gate object) S m = tt
  free (line.Account number level guarded roles key) S m = m.0.0
  free (line.Role number level kind manages key) S m = m.0.0
  free (line.Container number level mark holder) S m = m.0.0
  free (line.Object number level holder) S m = m.0.0
  free (line.Session number account level program parent) S m = m.0.0
  free (line.Right role item right) S m = tt
  free (line.Held session role) S m = tt
  free (line.Access session item access) S m = tt

  -- and leaves the items that were used
  leaves : (l : Line) (ls : List Line) → follows ls l ≡ true → Met (asks o h all (listed ls) l) → Kept (listed ls).cards.items (plus l (listed ls)).cards.items
  leaves (line.Root level mark) ls f m i u =
      absurd (false≢true (subst (λ (ks : List Line). IsSome ((listed ks).cards.items i)) (root_first level mark ls f) u))
  leaves (line.Gate object) ls f m i u = refl
  leaves (line.Account number level guarded roles key) ls f m i u = refl
  leaves (line.Role number level kind manages key) ls f m i u = refl
  leaves (line.Container number level mark holder) ls f m i u = kept_put number _ (listed ls).cards.items m.0.0 i u
  leaves (line.Object number level holder) ls f m i u = kept_put number _ (listed ls).cards.items m.0.0 i u
  leaves (line.Session number account level program parent) ls f m i u = kept_put number _ (listed ls).cards.items m.0.0 i u
  leaves (line.Right role item right) ls f m i u = refl
  leaves (line.Held session role) ls f m i u = refl
  leaves (line.Access session item access) ls f m i u = refl

  abbrev Fit : Fact → Type 0
  Fit = Fits o all.cards

  -- an item in its holder
  fits_holding : (new : Item) (number holder : ℕ) → all.cards.items number ≡ Some new → T (entity_in_range number) → T (container all holder) → T (o.below new.level (item_of all.cards holder).level) → Fit (Holding holder number)
  fits_holding new number holder e r c b =
      (used (all.cards.items holder) c, rw e refl, bounds 64 255 number r, rw e b)

  -- the facts that a line adds fit, where its items stay
  fits_plus : (l : Line) (S : State) → T (in_range l) → Met (asks o h all S l) → Kept (plus l S).cards.items all.cards.items → ((g : Fact) → Stands S g → Fit g) → (g : Fact) → Stands (plus l S) g → Fit g
  fits_plus (line.Root level mark) S r m k fits g =
      with_fact Fit (Lives root) g (S.stands g) (rw (new_kept root (live_item (Some (mark_of mark)) level) S.cards.items all.cards.items k) refl) (fits g)
  fits_plus (line.Gate object) S r m k fits g = fits g
  fits_plus (line.Account number level guarded roles key) S r m k fits g = fits g
  fits_plus (line.Role number level kind manages key) S r m k fits g = fits g
  fits_plus (line.Container number level mark holder) S r m k fits g =
      let new = live_item (Some (mark_of mark)) level in
      let e = new_kept number new S.cards.items all.cards.items k in
      with_fact Fit (Holding holder number) g (same g (Lives number) || S.stands g) (fits_holding new number holder e (parts (entity_in_range number) _ r).0 m.0.1 m.1.1.0) (with_fact Fit (Lives number) g (S.stands g) (rw e refl) (fits g))
  fits_plus (line.Object number level holder) S r m k fits g =
      let new = live_item None level in
      let e = new_kept number new S.cards.items all.cards.items k in
      with_fact Fit (Holding holder number) g (same g (Lives number) || S.stands g) (fits_holding new number holder e (parts (entity_in_range number) _ r).0 m.0.1 m.1.1.0) (with_fact Fit (Lives number) g (S.stands g) (rw e refl) (fits g))
  fits_plus (line.Session number account level program parent) S r m k fits g =
      with_fact Fit (Lives number) g (S.stands g) (rw (new_kept number (live_item None level) S.cards.items all.cards.items k) refl) (fits g)
  fits_plus (line.Right role item right) S r m k fits g =
      with_fact Fit (Right role item (mode_of right)) g (S.stands g) (m.0.1, m.1.0) (fits g)
  fits_plus (line.Held session role) S r m k fits g =
      with_fact Fit (Held session role) g (S.stands g) (m.0.0, m.1.0) (fits g)
  fits_plus (line.Access session item access) S r m k fits g =
      with_fact Fit (Access session item (mode_of access)) g (S.stands g) (m.0.0, m.0.1, m.1.0) (fits g)

  fits_listed : (ls : List Line) → InOrder ls → Clean o h all ls → Kept (listed ls).cards.items all.cards.items → (g : Fact) → Stands (listed ls) g → Fit g
  fits_listed [] s c k g t = absurd t
  fits_listed (l ∷ ls) s c k g t =
      fits_plus l (listed ls) (subst T (sym s.1) tt) c.0 kept (fits_listed ls s.2 c.1 (kept_on (leaves l ls s.0 c.0) kept)) g (subst (λ (S : State). Stands S g) one t)
    where
      one : with l (listed ls) ≡ plus l (listed ls)
      one = chosen (again l (listed ls)) (listed ls) (plus l (listed ls)) (free l (listed ls) c.0)

      kept : Kept (plus l (listed ls)).cards.items all.cards.items
      kept = subst (λ (S : State). Kept S.cards.items all.cards.items) one k

-- ## The state that a text begins

module _ {o : Order} {h : Rule} {bytes : List ℕ} {S : State} (b : Begins o h bytes S) where
  pub begins_settled : Settled S
  begins_settled = settled b.settled

  pub begins_sound : Sound o S
  begins_sound f s = subst (λ (C : Cards). Fits o C f) (sym b.settled.cards) (fits_derived o fit ((b.settled.facts f).0 s))
    where
      fit : (g : Fact) → Stands (listed b.lines) g → Fits o (listed b.lines).cards g
      fit = fits_listed o h (listed b.lines) b.lines b.read.sound b.clean (λ i u. refl)
