-- Nothing at or above a level changes but by a request from there.
use Rattle.std.proofs.Common.{◌≡◌, ℕ, not, T, eqb, List, [], ◌∷◌, Some, Ok, Option, is_some, unwrap_or, sym, refl, ap, ◌∙◌, subst, inl, inr, ⊎_elim, arith, eqb→eq}
use Rattle.std.specs.List.{AllByRecursion}
use Rattle.policy.specs.Order.{Order, Lawful}
use Rattle.policy.specs.Rule.{Rule}
use Rattle.model.specs.declared.answer.Refusal.{Refusal}
use Rattle.model.specs.declared.answer.Refusal.TheVariants as refusal
use Rattle.model.specs.declared.fact.Fact.{Fact}
use Rattle.model.specs.declared.fact.Fact.TheVariants.{Lives, Held, Right, Access, Holding, Flow, Control}
use Rattle.model.specs.declared.fact.Mode.TheVariants.{Write, Own}
use Rattle.model.specs.declared.record.Item.{Item}
use Rattle.model.specs.declared.request.Request.{Request}
use Rattle.model.specs.declared.request.Kind.{Kind}
use Rattle.model.specs.declared.request.Kind.TheVariants.{Take, Drop, Grant, Revoke, Object, Container, Link, Unlink, Delete, Open, Close, Gain, GiveUp}
use Rattle.model.specs.Answers.{Answer}
use Rattle.model.specs.Records.{Cards, State, Stands, no_item, role_of, item_of, level, Session, Entity, same, about}
use Rattle.model.specs.Form.{row, mode_of}
use Rattle.model.specs.Needs.{needs, Met}
use Rattle.model.specs.Effects.{item, effect, apply}
use Rattle.model.specs.Flows.{Derived, before, itself, owner, onward, writing, reading, passing, by_program, by_key, outward, inward}
use Rattle.model.specs.Runs.{Becomes, Step, accepted, refused, Run, stop, step}
use Rattle.model.specs.Laws.{Sound, High, Quiet, OfHigh, Unchanged, Isolation}
use Rattle.model.proofs.Tests.{either, alike}
use Rattle.model.proofs.Facts.{same_equal, listed, left_cases, left_stays}
use Rattle.model.proofs.Refusals.{The}
use Rattle.model.proofs.Levels.{put_new, bounds, y_ranged, need, grows, sound_step, sound_run}

-- a fact of high items comes from nothing but what was before
plain : {C : Cards} {p : ℕ → ℕ} {B : Fact → Type 0} {f : Fact} (o : Order) (L : ℕ) (S : State) → Derived C p B f → OfHigh o L S f → B f
plain o L S (before b) w = b
plain o L S (itself s d) w = absurd w
plain o L S (owner s t d) w = absurd w
plain o L S (onward c d) w = absurd w
plain o L S (writing u c d) w = absurd w
plain o L S (reading u c d) w = absurd w
plain o L S (passing c d) w = absurd w
plain o L S (by_program s t n d) w = absurd w
plain o L S (by_key s t l n d) w = absurd w
plain o L S (outward u c d) w = absurd w
plain o L S (inward u c d) w = absurd w

-- an item that is named as new is not at or above L
abbrev BornLow : Order → ℕ → Cards → Fact → Type 0
BornLow o L C (Lives i) = ¬ T (o.below L (item_of C i).level)
BornLow o L C (Held s r) = Unit {0}
BornLow o L C (Right r i m) = Unit {0}
BornLow o L C (Access s i m) = Unit {0}
BornLow o L C (Holding c e) = Unit {0}
BornLow o L C (Flow a b) = Unit {0}
BornLow o L C (Control s t) = Unit {0}

-- ## One request from below L

module _ (o : Order) (law : Lawful o) (h : Rule) (L : ℕ) (S : State) (q : Request) (sound : Sound o S) (low : ¬ T (o.below L (level S q.x))) where
  its : (k : Kind) (a : Refusal) → Met (needs o h S q (Some k)) → The (needs o h S q (Some k)) a
  its = need o h S q

  abbrev UnderX : ℕ → Type 0
  UnderX i = T (o.below (level S i) (level S q.x))

  -- what is at or below x is not high
  under : (i : ℕ) → UnderX i → ¬ High o L S i
  under i t w = low (law.transitive _ _ _ w.1 t)

  owns : (i : ℕ) → Stands S (Access q.x i Own) → UnderX i
  owns i s = (sound _ s).2 tt

  writes : (i : ℕ) → Stands S (Access q.x i Write) → UnderX i
  writes i s = (sound _ s).2 tt

  held_under : (c e : ℕ) → Stands S (Holding c e) → UnderX c → UnderX e
  held_under c e s t = law.transitive _ _ _ (sound _ s).3 t

  unborn : (i : ℕ) → T (not (is_some (S.cards.items i))) → ¬ High o L S i
  unborn i free w = rw (sound (Lives i) w.0) at free

  -- ## What comes

  new_entity : T (not (is_some (S.cards.items q.y))) → Stands S (Access q.x q.z Write) → AllByRecursion (λ f. ¬ OfHigh o L S f) (Lives q.y ∷ Holding q.z q.y ∷ Right q.r q.y Own ∷ [])
  new_entity free s = (unborn q.y free, (⊎_elim (under q.z (writes q.z s)) (unborn q.y free), (unborn q.y free, tt)))

  comes_low : (k : Kind) → Met (needs o h S q (Some k)) → AllByRecursion (λ f. ¬ OfHigh o L S f) (effect q k).comes
  comes_low Take m = (λ w. low w.1, tt)
  comes_low Drop m = tt
  comes_low Grant m = (under q.y (owns q.y (its Grant refusal.AccessMissing m)), tt)
  comes_low Revoke m = tt
  comes_low Object m = new_entity (its Object refusal.NumberUsed m).0 (its Object refusal.AccessMissing m)
  comes_low Container m = new_entity (its Container refusal.NumberUsed m).0 (its Container refusal.AccessMissing m)
  comes_low Link m =
      let z≤ = writes q.z (its Link refusal.AccessMissing m) in
      (⊎_elim (under q.z z≤) (under q.y (law.transitive _ _ _ (its Link refusal.Levels m) z≤)), tt)
  comes_low Unlink m = tt
  comes_low Delete m = tt
  comes_low Open m =
      let free = unborn q.z (its Open refusal.NumberUsed m).1 in (free, (λ w. low w.0.1, (free, tt)))
  comes_low Close m = tt
  comes_low Gain m = (λ w. low w.0.1, tt)
  comes_low GiveUp m = tt

  new_low : (i : ℕ) (new : Item) → new.level ≡ q.l → T (o.below q.l (role_of S.cards q.r).level) → T (o.below (role_of S.cards q.r).level (level S q.x)) → ¬ T (o.below L (item_of (item i new S.cards) i).level)
  new_low i new l r≤ x≤ t =
      low (law.transitive _ _ _ (law.transitive _ _ _ (rw (put_new i (Some new) S.cards.items, l) at t) r≤) x≤)

  born_low : (k : Kind) → Met (needs o h S q (Some k)) → AllByRecursion (BornLow o L ((effect q k).written S.cards)) (effect q k).comes
  born_low Take m = (tt, tt)
  born_low Drop m = tt
  born_low Grant m = (tt, tt)
  born_low Revoke m = tt
  born_low Object m = let levels = its Object refusal.Levels m in (new_low q.y _ refl levels.0 levels.1, (tt, (tt, tt)))
  born_low Container m =
      let levels = its Container refusal.Levels m in (new_low q.y _ refl levels.0 levels.1, (tt, (tt, tt)))
  born_low Link m = (tt, tt)
  born_low Unlink m = tt
  born_low Delete m = tt
  born_low Open m = let levels = its Open refusal.Levels m in (new_low q.z _ refl levels.0 levels.1, (tt, (tt, tt)))
  born_low Close m = tt
  born_low Gain m = (tt, tt)
  born_low GiveUp m = tt

  -- ## What falls

  abbrev Spared : Fact → Type 0
  Spared f = Stands S f → ¬ OfHigh o L S f

  ended : (g : Fact) → Spared g → (f : Fact) → T (same f g) → Spared f
  ended g n f t = subst Spared (sym (same_equal f g t)) n

  -- an item at or below x goes, which lies in nothing at or above L
  module _ (i : ℕ) (i≤ : UnderX i) (lies : (c : ℕ) → Stands S (Holding c i) → ¬ High o L S c) where
    itself_low : (j : ℕ) → T (eqb j i) → ¬ High o L S j
    itself_low j e = subst (λ (n : ℕ). ¬ High o L S n) (sym (eqb→eq j i e)) (under i i≤)

    held_low : (c e : ℕ) → T (eqb c i) → Stands S (Holding c e) → ¬ High o L S e
    held_low c e t s = under e (held_under c e s (subst UnderX (sym (eqb→eq c i t)) i≤))

    holder_low : (c e : ℕ) → T (eqb e i) → Stands S (Holding c e) → ¬ High o L S c
    holder_low c e t s = lies c (subst (λ (n : ℕ). Stands S (Holding c n)) (eqb→eq e i t) s)

    went : (f : Fact) → T (about i f) → Spared f
    went (Lives j) a s = itself_low j a
    went (Held j r) a s = itself_low j a
    went (Right r j m) a s = itself_low j a
    went (Access j k m) a s =
        ⊎_elim (λ t w. itself_low j t w.0) (λ t w. itself_low k t w.1) (either (eqb j i) (eqb k i) a)
    went (Holding c e) a s =
        ⊎_elim (λ t. ⊎_elim (itself_low c t) (held_low c e t s)) (λ t. ⊎_elim (holder_low c e t s) (itself_low e t)) (either (eqb c i) (eqb e i) a)
    went (Flow j k) a s = λ w. w
    went (Control j k) a s = λ w. w

  holds_no_session : (c y : ℕ) → Session y → ¬ Stands S (Holding c y)
  holds_no_session c y t s = let e : Entity y = (sound _ s).2 in omega arith

  falls_low : (k : Kind) → Met (needs o h S q (Some k)) → (f : Fact) → T ((effect q k).falls f) → Spared f
  falls_low Take m f t = absurd t
  falls_low Drop m f t = ended (Held q.x q.r) (λ s w. low w.1) f t
  falls_low Grant m f t = absurd t
  falls_low Revoke m f t =
      ended (Right q.r q.y (mode_of q.m)) (λ s. under q.y (owns q.y (its Revoke refusal.AccessMissing m).0)) f t
  falls_low Object m f t = absurd t
  falls_low Container m f t = absurd t
  falls_low Link m f t = absurd t
  falls_low Unlink m f t =
      let z≤ = writes q.z (its Unlink refusal.AccessMissing m).writes in
      ended (Holding q.z q.y) (λ s. ⊎_elim (under q.z z≤) (under q.y (held_under q.z q.y s z≤))) f t
  falls_low Delete m f t =
      let z≤ = writes q.z (its Delete refusal.AccessMissing m).writes in
      went q.y (held_under q.z q.y (its Delete refusal.NotInContainer m) z≤) (λ c s w. under q.z z≤ (subst (High o L S) ((its Delete refusal.OtherHoldings m).only c s) w)) f t
  falls_low Open m f t = absurd t
  falls_low Close m f t =
      went q.y (its Close refusal.Levels m) (λ c s w. holds_no_session c q.y (bounds 1 63 q.y (y_ranged (row Close) q (its Close refusal.Range m))) s) f t
  falls_low Gain m f t = absurd t
  falls_low GiveUp m f t = ended (Access q.x q.y (mode_of q.m)) (λ s w. low w.0.1) f t

  -- ## What is left

  module _ (S' : State) (k : Kind) (m : Met (needs o h S q (Some k))) (b : Becomes S q k S') where
    level_same : (i : ℕ) → Stands S (Lives i) → level S' i ≡ level S i
    level_same i s =
        ap (λ (C : Cards). (item_of C i).level) b.cards ∙ ap (λ (a : Option Item). (unwrap_or a no_item).level) ((grows o h S q k m).items i (sound (Lives i) s))

    fact_same : (f : Fact) → OfHigh o L S f → S'.stands f ≡ S.stands f
    fact_same f w =
        alike (S'.stands f) (S.stands f) (λ t. back (plain o L S ((b.facts f).0 t) w)) (λ s. (b.facts f).1 (before (left_stays (effect q k) S.stands f s (λ t. falls_low k m f t s w))))
      where
        back : Stands (apply (effect q k) S) f → Stands S f
        back l =
            ⊎_elim (λ s. s.0) (λ c. absurd (listed (λ g. ¬ OfHigh o L S g) (effect q k).comes (comes_low k m) f c w)) (left_cases (effect q k) S.stands f l)

    abbrev D : Cards
    D = (effect q k).written S.cards

    up : (i : ℕ) → High o L S i → High o L S' i
    up i w = (subst T (sym (fact_same (Lives i) w)) w.0, rw (level_same i w.0) w.1)

    down : (i : ℕ) → High o L S' i → High o L S i
    down i w = ⊎_elim stood (λ c. absurd (listed (BornLow o L D) (effect q k).comes (born_low k m) (Lives i) c high)) (left_cases (effect q k) S.stands (Lives i) (lived ((b.facts (Lives i)).0 w.0)))
      where
        high : T (o.below L (item_of D i).level)
        high = rw b.cards at w.1

        lived : {C : Cards} {p : ℕ → ℕ} {B : Fact → Type 0} → Derived C p B (Lives i) → B (Lives i)
        lived (before l) = l

        stood : Stands S (Lives i) × ¬ T ((effect q k).falls (Lives i)) → High o L S i
        stood s = (s.0, rw (level_same i s.0) at w.1)

    unchanged : Unchanged o L S S'
    unchanged = record { items = λ i. (up i, down i); levels = λ i w. level_same i w.0; facts = fact_same }

-- ## A run

module _ (o : Order) (L : ℕ) where
  as_it_was : (S : State) → Unchanged o L S S
  as_it_was S = record { items = λ i. (λ w. w, λ w. w); levels = λ i w. refl; facts = λ f w. refl }

  still_high : {S S₁ : State} → Unchanged o L S S₁ → (f : Fact) → OfHigh o L S f → OfHigh o L S₁ f
  still_high u (Lives i) w = (u.items i).0 w
  still_high u (Held s r) w = (u.items s).0 w
  still_high u (Right r i m) w = (u.items i).0 w
  still_high u (Access s i m) w = ((u.items s).0 w.0, (u.items i).0 w.1)
  still_high u (Holding c e) w = ⊎_elim (λ v. inl ((u.items c).0 v)) (λ v. inr ((u.items e).0 v)) w
  still_high u (Flow a b) w = w
  still_high u (Control s t) w = w

  pub and_then : {S S₁ S₂ : State} → Unchanged o L S S₁ → Unchanged o L S₁ S₂ → Unchanged o L S S₂
  and_then u v =
      record { items = λ i. (λ w. (v.items i).0 ((u.items i).0 w), λ w. (u.items i).1 ((v.items i).1 w)); levels = λ i w. v.levels i ((u.items i).0 w) ∙ u.levels i w; facts = λ f w. v.facts f (still_high u f w) ∙ u.facts f w }

module _ (o : Order) (law : Lawful o) (h : Rule) (L : ℕ) where
  isolate_step : {S S' : State} {q : Request} {a : Answer} → Sound o S → Step o h S q a S' → (a ≡ Ok tt → ¬ High o L S q.x) → Unchanged o L S S'
  isolate_step {S} {S'} {q} s (accepted {k} e m b) n =
      unchanged o law h L S q s (λ t. n refl (m.1.1.1.0.0, t)) S' k m b
  isolate_step {S} s (refused f) n = as_it_was o L S

  -- a quiet run from a sound state
  pub isolate : {S S' : State} {qs : List Request} {ans : List Answer} → Sound o S → (r : Run o h S qs ans S') → Quiet o h L r → Unchanged o L S S'
  isolate {S} s stop n = as_it_was o L S
  isolate s (step t r) n = and_then o L (isolate_step s t n.0) (isolate (sound_step o law h s t) r n.1)

pub isolation : (o : Order) → Lawful o → (h : Rule) → Isolation o h
isolation o law h L start S S' qs rs ans bs s first stretch n = isolate o law h L (sound_run o law h s first) stretch n
