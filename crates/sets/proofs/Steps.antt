-- Steps towards a least set, one after another.
use Rattle.std.proofs.Common.{◌≡◌, ℕ, ◌+◌, ◌<◌, ◌≤◌, Bool, true, false, ◌||◌, ◌⊎◌, sym, refl, ◌∙◌, subst, inl, inr, arith, below_more}
use Rattle.std.proofs.lemmas.Bool.{or_parts, false≢true}
use Rattle.sets.specs.Least.{Joined, Told, Spread}

pub clash : {A : Type 0} (b : Bool) → false ≡ b → b ≡ true → A
clash b e h = absurd (false≢true (e ∙ h))

-- facts that a state has or lacks, and a way to follow from others
pub record System (X F : Type 0) : Type 1 where
  pub has : X → F → Type 0
  pub lacks : X → F → Type 0
  pub follows : (F → Type 0) → F → Type 0
  pub before : (B : F → Type 0) (f : F) → B f → follows B f
  pub cut : (A B : F → Type 0) → ((f : F) → A f → follows B f) → (f : F) → follows A f → follows B f

module _ {X F : Type 0} (S : System X F) where
  same : (old new : X) (g : Bool) → Told S.has S.lacks old new g → g ≡ false → new ≡ old
  same old new true w e = absurd (false≢true (sym e))
  same old new false w e = w

  both_told : (a b d : X) (g h : Bool) → Told S.has S.lacks a b g → Told S.has S.lacks b d h → ((f : F) → S.has b f → S.has d f)
      → Told S.has S.lacks a d (g || h)
  both_told a b d true h w v k = (w.0, w.1, k w.0 w.2)
  both_told a b d false true w v k = (v.0, subst (λ (x : X). S.lacks x v.0) w v.1, v.2)
  both_told a b d false false w v k = v ∙ w

  abbrev pub Step : X → X → Bool → (X → Type 0) → Type 0
  Step = Spread S.has S.lacks S.follows

  pub still : (x : X) (P : X → Type 0) → P x → Step x x false P
  still x P h = record { kept = λ f k. k; follows = S.before (S.has x); told = refl; closed = λ _. h }

  -- facts that follow are added
  pub spread_of : (old new : X) (g : Bool) (More : F → Type 0) (P : X → Type 0) → Joined S.has S.lacks old new g More
      → ((f : F) → More f → S.follows (S.has old) f) → (new ≡ old → ((f : F) → More f → S.has new f) → P new) → Step old new g P
  spread_of old new g More P j so closed =
      record {
        kept = j.kept;
        follows = λ f h. from f (j.else f h);
        told = j.told;
        closed = λ e. closed (same old new g j.told e) j.added;
      }
    where
      from : (f : F) → S.has old f ⊎ More f → S.follows (S.has old) f
      from f (inl h) = S.before (S.has old) f h
      from f (inr m) = so f m

  -- one fact is added
  pub spread_one : (old new : X) (g : Bool) (f : F) (P : X → Type 0) → Joined S.has S.lacks old new g (λ x. x ≡ f)
      → S.follows (S.has old) f → (S.has new f → P new) → Step old new g P
  spread_one old new g f P j d closed =
      spread_of old new g (λ x. x ≡ f) P j (λ x e. subst (S.follows (S.has old)) (sym e) d) (λ _ add. closed (add f refl))

  pub weaken : {old new : X} {g : Bool} {P : X → Type 0} (Q : X → Type 0) → (P new → Q new) → Step old new g P → Step old new g Q
  weaken Q f s = record { kept = s.kept; follows = s.follows; told = s.told; closed = λ e. f (s.closed e) }

  -- two steps are a step
  pub both : {a b d : X} {g h : Bool} {P Q : X → Type 0} → Step a b g P → Step b d h Q → Step a d (g || h) (λ x. P x × Q x)
  both {a = a} {b = b} {d = d} {g = g} {h = h} {P = P} s u =
      record {
        kept = λ f k. u.kept f (s.kept f k);
        follows = λ f k. S.cut (S.has b) (S.has a) s.follows f (u.follows f k);
        told = both_told a b d g h s.told u.told u.kept;
        closed = λ e. let p = or_parts g h e in (subst P (sym (same b d h u.told p.1)) (s.closed p.0), u.closed p.1);
      }

  -- a loop of steps, from m
  pub none : (x : X) (P : ℕ → X → Type 0) → Step x x false (λ y. (k : ℕ) → k < 0 → P k y)
  none x P = still x (λ y. (k : ℕ) → k < 0 → P k y) (λ k h. absurd (omega arith))

  pub more : {a b d : X} {g h : Bool} (P : ℕ → X → Type 0) (i : ℕ) → Step a b g (λ x. (k : ℕ) → k < i → P k x) → Step b d h (P i)
      → Step a d (g || h) (λ x. (k : ℕ) → k < i + 1 → P k x)
  more {d = d} P i s u = weaken (λ x. (k : ℕ) → k < i + 1 → P k x) (λ p. below_more (λ k. P k d) i p.0 p.1) (both s u)

  pub all : {a b : X} {g : Bool} (P : ℕ → X → Type 0) (n i : ℕ) → n ≤ i → Step a b g (λ x. (k : ℕ) → k < i → P k x)
      → Step a b g (λ x. (k : ℕ) → k < n → P k x)
  all P n i h s = weaken (λ x. (k : ℕ) → k < n → P k x) (λ p k l. p k (omega arith)) s
