-- Facts keep to their level conditions along a run.
use Rattle.std.proofs.Common.{◌≡◌, ℕ, ◌≤◌, Bool, true, false, cond, not, ◌&&◌, T, eqb, leb, List, [], ◌∷◌, Some, None, Option, is_some, IsSome, sym, refl, ap, subst, ⊎_elim, eqb→eq, leb→le}
use lib.Dec.{eqb_refl}
use Rattle.std.specs.List.{AllByRecursion}
use Rattle.policy.specs.Order.{Order, Lawful}
use Rattle.policy.specs.Rule.{Rule}
use Rattle.model.specs.declared.answer.Refusal.{Refusal}
use Rattle.model.specs.declared.answer.Refusal.TheVariants as refusal
use Rattle.model.specs.declared.fact.Fact.{Fact}
use Rattle.model.specs.declared.fact.Fact.TheVariants.{Lives, Held, Right, Access, Holding, Flow, Control}
use Rattle.model.specs.declared.fact.Mode.TheVariants.{Own}
use Rattle.model.specs.declared.record.Item.{Item}
use Rattle.model.specs.declared.request.Request.{Request}
use Rattle.model.specs.declared.request.Row.{Row}
use Rattle.model.specs.declared.request.Kind.{Kind}
use Rattle.model.specs.declared.request.Kind.TheVariants.{Take, Drop, Grant, Revoke, Object, Container, Link, Unlink, Delete, Open, Close, Gain, GiveUp}
use Rattle.model.specs.Answers.{Answer}
use Rattle.model.specs.Records.{Cards, State, Stands, role_of, item_of, level, Entity}
use Rattle.model.specs.Form.{row, between, admits, ranged}
use Rattle.model.specs.Needs.{is_container, needs, Met}
use Rattle.model.specs.Effects.{put, item, live_item, effect, apply}
use Rattle.model.specs.Flows.{Derived, before, itself, owner, onward, writing, reading, passing, by_program, by_key, outward, inward}
use Rattle.model.specs.Runs.{Becomes, Step, accepted, refused, Run, stop, step}
use Rattle.model.specs.Laws.{Fits, Sound}
use Rattle.model.proofs.Tests.{parts}
use Rattle.model.proofs.Facts.{listed, left_cases}
use Rattle.model.proofs.Refusals.{The, the}

-- ## Writing at one number

pub put_new {ℓ} : {A : Type ℓ} (i : ℕ) (a : A) (f : ℕ → A) → put i a f i ≡ a
put_new i a f = go (eqb i i) (eqb_refl i)
  where
    go : (b : Bool) → T b → cond b a (f i) ≡ a
    go true t = refl
    go false t = absurd t

pub put_old {ℓ} : {A : Type ℓ} (i : ℕ) (a : A) (f : ℕ → A) (j : ℕ) → (j ≡ i → ⊥) → put i a f j ≡ f j
put_old i a f j n = go (eqb j i) (λ t. n (eqb→eq j i t))
  where
    go : (b : Bool) → (T b → ⊥) → cond b a (f j) ≡ f j
    go true m = absurd (m tt)
    go false m = refl

-- ## What a request's numbers are

pub bounds : (a b n : ℕ) → T (between a b n) → (a ≤ n) × (n ≤ b)
bounds a b n t = let p = parts (leb a n) (leb n b) t in (leb→le a n p.0, leb→le n b p.1)

pub y_ranged : (w : Row) (q : Request) → T (ranged w q) → T (admits w.y q.y)
y_ranged w q t =
    let u = (parts (between 1 63 q.x) _ t).1 in
    let v = (parts (between 1 63 q.v) _ u).1 in
    let r = (parts (admits w.r q.r) _ v).1 in
    (parts (admits w.y q.y) _ r).0

-- ## What fits goes on to fit

-- the cards of used items stay as they are
pub record Grown (C D : Cards) : Type 0 where
  pub roles : D.roles ≡ C.roles
  pub items : (i : ℕ) → IsSome (C.items i) → D.items i ≡ C.items i

used_stay : (C : Cards) (i : ℕ) (new : Item) → T (not (is_some (C.items i))) → (j : ℕ) → IsSome (C.items j) → put i (Some new) C.items j ≡ C.items j
used_stay C i new free j u =
    put_old i (Some new) C.items j (λ e. absurd (rw (subst (λ (n : ℕ). IsSome (C.items n)) e u) at free))

module _ (o : Order) (C D : Cards) (g : Grown C D) where
  used_on : (i : ℕ) → IsSome (C.items i) → IsSome (D.items i)
  used_on i u = rw (g.items i u) u

  below_on : (i j : ℕ) → IsSome (C.items i) → IsSome (C.items j) → T (o.below (item_of C i).level (item_of C j).level) → T (o.below (item_of D i).level (item_of D j).level)
  below_on i j u v t = rw (g.items i u, g.items j v) t

  fits_on : (f : Fact) → Fits o C f → Fits o D f
  fits_on (Lives i) t = used_on i t
  fits_on (Held s r) t = (used_on s t.0, rw (g.roles, g.items s t.0) t.1)
  fits_on (Right r i m) t = (used_on i t.0, λ w. rw (g.roles, g.items i t.0) (t.1 w))
  fits_on (Access s i m) t = (used_on s t.0, used_on i t.1, λ w. below_on i s t.1 t.0 (t.2 w))
  fits_on (Holding c e) t = (used_on c t.0, used_on e t.1, t.2, below_on e c t.1 t.0 t.3)
  fits_on (Flow a b) t = tt
  fits_on (Control s t) u = tt

-- what follows fits if what it follows from does
pub fits_derived : (o : Order) {C : Cards} {p : ℕ → ℕ} {B : Fact → Type 0} {f : Fact} → ((g : Fact) → B g → Fits o C g) → Derived C p B f → Fits o C f
fits_derived o k (before b) = k _ b
fits_derived o k (itself s d) = tt
fits_derived o k (owner s t d) = tt
fits_derived o k (onward c d) = tt
fits_derived o k (writing u c d) = tt
fits_derived o k (reading u c d) = tt
fits_derived o k (passing c d) = tt
fits_derived o k (by_program s t n d) = tt
fits_derived o k (by_key s t l n d) = tt
fits_derived o k (outward u c d) = tt
fits_derived o k (inward u c d) = tt

-- ## One request

module _ (o : Order) (h : Rule) (S : State) (q : Request) where
  pub need : (k : Kind) (a : Refusal) → Met (needs o h S q (Some k)) → The (needs o h S q (Some k)) a
  need k a m = the (needs o h S q (Some k)) a m

  abbrev stays : {D : Cards} → D.roles ≡ S.cards.roles → D.items ≡ S.cards.items → Grown S.cards D
  stays r e = record { roles = r; items = λ i u. ap (λ (f : ℕ → Option Item). f i) e }

  pub grows : (k : Kind) → Met (needs o h S q (Some k)) → Grown S.cards ((effect q k).written S.cards)
  grows Take m = stays refl refl
  grows Drop m = stays refl refl
  grows Grant m = stays refl refl
  grows Revoke m = stays refl refl
  grows Object m = record { roles = refl; items = used_stay S.cards q.y _ (need Object refusal.NumberUsed m).0 }
  grows Container m = record { roles = refl; items = used_stay S.cards q.y _ (need Container refusal.NumberUsed m).0 }
  grows Link m = stays refl refl
  grows Unlink m = stays refl refl
  grows Delete m = stays refl refl
  grows Open m = record { roles = refl; items = used_stay S.cards q.z _ (need Open refusal.NumberUsed m).1 }
  grows Close m = stays refl refl
  grows Gain m = stays refl refl
  grows GiveUp m = stays refl refl

module _ (o : Order) (law : Lawful o) (h : Rule) (S : State) (q : Request) (sound : Sound o S) where
  its : (k : Kind) (a : Refusal) → Met (needs o h S q (Some k)) → The (needs o h S q (Some k)) a
  its = need o h S q

  used : (i : ℕ) → Stands S (Lives i) → IsSome (S.cards.items i)
  used i s = sound (Lives i) s

  -- a new object or container, in the container z and owned by the role r
  new_entity : (new : Item) → new.level ≡ q.l → T (not (is_some (S.cards.items q.y))) → Stands S (Lives q.z) → Entity q.y → T (o.below q.l (role_of S.cards q.r).level) → T (o.below q.l (level S q.z)) → AllByRecursion (Fits o (item q.y new S.cards)) (Lives q.y ∷ Holding q.z q.y ∷ Right q.r q.y Own ∷ [])
  new_entity new l free z e r≤ z≤ =
      (rw here refl, ((rw there (used q.z z), rw here refl, e, rw (here, there, l) z≤), ((rw here refl, λ w. rw (here, l) r≤), tt)))
    where
      here : put q.y (Some new) S.cards.items q.y ≡ Some new
      here = put_new q.y (Some new) S.cards.items

      there : put q.y (Some new) S.cards.items q.z ≡ S.cards.items q.z
      there = used_stay S.cards q.y new free q.z (used q.z z)

  z_lives : T (S.stands (Lives q.z) && is_container (item_of S.cards q.z)) → Stands S (Lives q.z)
  z_lives t = (parts (S.stands (Lives q.z)) _ t).0

  fits_new : (k : Kind) → Met (needs o h S q (Some k)) → AllByRecursion (Fits o ((effect q k).written S.cards)) (effect q k).comes
  fits_new Take m = ((used q.x (its Take refusal.NoSession m).0, its Take refusal.Levels m), tt)
  fits_new Drop m = tt
  fits_new Grant m = ((used q.y (its Grant refusal.WrongItem m).0, (its Grant refusal.Levels m).1), tt)
  fits_new Revoke m = tt
  fits_new Object m =
      let levels = its Object refusal.Levels m in
      new_entity _ refl (its Object refusal.NumberUsed m).0 (z_lives (its Object refusal.WrongItem m).1) (bounds 64 255 q.y (y_ranged (row Object) q (its Object refusal.Range m))) levels.0 levels.2
  fits_new Container m =
      let levels = its Container refusal.Levels m in
      new_entity _ refl (its Container refusal.NumberUsed m).0 (z_lives (its Container refusal.WrongItem m).1) (bounds 64 255 q.y (y_ranged (row Container) q (its Container refusal.Range m))) levels.0 levels.2
  fits_new Link m =
      ((used q.z (z_lives (its Link refusal.WrongItem m).1), used q.y (parts (S.stands (Lives q.y)) _ (its Link refusal.WrongItem m).0).0, bounds 64 255 q.y (y_ranged (row Link) q (its Link refusal.Range m)), its Link refusal.Levels m), tt)
  fits_new Unlink m = tt
  fits_new Delete m = tt
  fits_new Open m =
      (rw here refl, ((rw there x_used, rw here refl, λ w. rw (here, there) (law.transitive _ _ _ levels.0 levels.1)), ((rw here refl, λ w. rw here levels.0), tt)))
    where
      x_used : IsSome (S.cards.items q.x)
      x_used = used q.x (its Open refusal.NoSession m).0

      levels : The (needs o h S q (Some Open)) refusal.Levels
      levels = its Open refusal.Levels m

      here : put q.z (Some (live_item None q.l)) S.cards.items q.z ≡ Some (live_item None q.l)
      here = put_new q.z (Some (live_item None q.l)) S.cards.items

      there : put q.z (Some (live_item None q.l)) S.cards.items q.x ≡ S.cards.items q.x
      there = used_stay S.cards q.z _ (its Open refusal.NumberUsed m).1 q.x x_used
  fits_new Close m = tt
  fits_new Gain m =
      let role = its Gain refusal.AccessMissing m in
      ((used q.x (its Gain refusal.NoSession m).0, used q.y (its Gain refusal.WrongItem m).0, λ w. law.transitive _ _ _ ((sound _ role.2).1 w) (sound _ role.1).1), tt)
  fits_new GiveUp m = tt

  sound_after : {S' : State} (k : Kind) → Met (needs o h S q (Some k)) → Becomes S q k S' → Sound o S'
  sound_after k m b f s = subst (λ (C : Cards). Fits o C f) (sym b.cards) (fits_derived o stay ((b.facts f).0 s))
    where
      stay : (g : Fact) → Stands (apply (effect q k) S) g → Fits o ((effect q k).written S.cards) g
      stay g l =
          ⊎_elim (λ t. fits_on o S.cards ((effect q k).written S.cards) (grows o h S q k m) g (sound g t.0)) (listed (Fits o ((effect q k).written S.cards)) (effect q k).comes (fits_new k m) g) (left_cases (effect q k) S.stands g l)

module _ (o : Order) (law : Lawful o) (h : Rule) where
  pub sound_step : {S S' : State} {q : Request} {a : Answer} → Sound o S → Step o h S q a S' → Sound o S'
  sound_step {S} {q} s (accepted {k} e m b) = sound_after o law h S q s k m b
  sound_step s (refused f) = s

  pub sound_run : {S S' : State} {qs : List Request} {ans : List Answer} → Sound o S → Run o h S qs ans S' → Sound o S'
  sound_run s stop = s
  sound_run s (step t r) = sound_run (sound_step s t) r
