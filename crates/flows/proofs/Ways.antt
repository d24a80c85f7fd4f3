-- The steps of a search through containers.
use Rattle.std.proofs.Common.{◌≡◌, ℕ, ◌+◌, ◌<◌, ◌≤◌, Bool, true, false, ◌||◌, eqb, ◌⊎◌, ◌↔◌, Decides, MatchBool, sym, refl, ap, ◌∙◌, subst, inl, inr, arith, below_more}
use Rattle.std.proofs.lemmas.Bool.{or_cases, or_left, or_right, false≢true, eq-eqb, ne_eqb}
use Rattle.std.proofs.lemmas.Bool.Decides.{Decides-at}
use Rattle.sets.specs.Least.{Joined, Told}
use Rattle.sets.specs.Member.{in_set}
use Rattle.sets.specs.declared.set.Set.{Set}
use Rattle.sets.proofs.Steps.{System}
use Rattle.sets.proofs.Count.{lacks, lacks_lt}
use Rattle.policy.specs.Order.{Order}
use Rattle.model.specs.declared.fact.Fact.TheVariants.{Holding}
use Rattle.model.specs.Records.{State, Stands, root}
use Rattle.model.specs.Needs.{Passes, Chain, into}
use Rattle.model.specs.Needs as needs
use Rattle.flows.specs.Within.{In, Out, Within, start, inside, Opened}

pub cut : {S : State} {P A B : ℕ → Type 0} → ((y : ℕ) → A y → Within S P B y) → {y : ℕ} → Within S P A y → Within S P B y
cut h (start {y = y} x) = h y x
cut h (inside w p k) = inside (cut h w) p k

abbrev pub ways : State → Set 4 → System (Set 4) ℕ
ways S p = record { has = In; lacks = Out; follows = Within S (In p); before = λ B y h. start h; cut = λ A B h y w. cut h w }

-- ## The containers that pass

-- of the numbers below i those of which P holds, and no others
abbrev pub Chosen : (ℕ → Type 0) → ℕ → Set 4 → Type 0
Chosen P i s = ((k : ℕ) → k < i → Decides (in_set s k) (P k)) × ((k : ℕ) → i ≤ k → in_set s k ≡ false)

pub chosen_in : (P : ℕ → Type 0) (i : ℕ) (old new : Set 4) → P i → ((k : ℕ) → in_set new k ≡ (in_set old k || eqb k i)) → Chosen P i old → Chosen P (i + 1) new
chosen_in P i old new p m c = (
  below_more (λ k. Decides (in_set new k) (P k)) i (λ k l. Decides-at (in_set new k) (in_set old k) (other k (λ e. omega arith)) (c.0 k l))
      (λ _. p, λ _. m i ∙ or_right (in_set old i) (eqb i i) (eq-eqb i i refl)),
  λ k l. other k (λ e. omega arith) ∙ c.1 k (omega arith),
)
  where
    alone : (b : Bool) → (b || false) ≡ b
    alone true = refl
    alone false = refl

    other : (k : ℕ) → (k ≡ i → ⊥) → in_set new k ≡ in_set old k
    other k ne = m k ∙ ap (λ (b : Bool). in_set old k || b) (ne_eqb k i ne) ∙ alone (in_set old k)

pub chosen_out : (P : ℕ → Type 0) (i : ℕ) (s : Set 4) → (P i → ⊥) → Chosen P i s → Chosen P (i + 1) s
chosen_out P i s n c = (
  below_more (λ k. Decides (in_set s k) (P k)) i c.0 (λ e. absurd (false≢true (sym (c.1 i (omega arith)) ∙ e)), λ p. absurd (n p)),
  λ k l. c.1 k (omega arith),
)

-- ## The search

-- a union adds what the other set has
pub merged : (old new other : Set 4) (g : Bool) → ((k : ℕ) → in_set new k ≡ (in_set old k || in_set other k))
    → MatchBool g ((k : ℕ) × (k < 256) × (in_set old k ≡ false) × (in_set new k ≡ true)) (new ≡ old) → Joined In Out old new g (In other)
merged old new other g m w =
    record {
      kept = λ y h. (h.0, m y ∙ or_left (in_set old y) (in_set other y) h.1);
      added = λ y h. (h.0, m y ∙ or_right (in_set old y) (in_set other y) h.1);
      else = λ y h. which y h.0 (or_cases (in_set old y) (in_set other y) (sym (m y) ∙ h.1));
      told = told g w;
    }
  where
    which : (y : ℕ) → y < 256 → ((in_set old y ≡ true) ⊎ (in_set other y ≡ true)) → In old y ⊎ In other y
    which y l (inl h) = inl (l, h)
    which y l (inr h) = inr (l, h)

    told : (g : Bool) → MatchBool g ((k : ℕ) × (k < 256) × (in_set old k ≡ false) × (in_set new k ≡ true)) (new ≡ old) → Told In Out old new g
    told true w = (w.0, w.2, (w.1, w.3))
    told false w = w

-- what has the start and is closed, has all that lies within
pub whole : {S : State} (p : Set 4) {Start : ℕ → Type 0} (s : Set 4) → ((y : ℕ) → Start y → In s y) → ((c : ℕ) → c < 256 → Opened S p c s)
    → {y : ℕ} → Within S (In p) Start y → In s y
whole p s k o (start {y = y} x) = k y x
whole p s k o (inside {c = c} {y = y} w a h) = let i = whole p s k o w in o c i.0 y i a h

pub unseen : Set 4 → ℕ
unseen s = lacks (in_set s) 256

pub fewer : (old new : Set 4) (g : Bool) → g ≡ true → ((y : ℕ) → In old y → In new y) → Told In Out old new g → unseen new < unseen old
unfolding unseen
fewer old new false e kept told = absurd (false≢true e)
fewer old new true e kept told =
    lacks_lt (in_set old) (in_set new) 256 (λ k l h. (kept k (l, h)).1) told.0 told.2.0 told.1 told.2.1

-- a chain ends at the root or at what a container holds
pub chain_end : {o : Order} {S : State} {x : ℕ} → ((c y : ℕ) → Stands S (Holding c y) → y < 256) → {y : ℕ} → Chain o S x y → y < 256
chain_end b needs.start = omega arith
chain_end b (into {c = c} {y = y} w q h) = b c y h

-- the chains of a session are what lies within the root through what passes for it
module _ (o : Order) (S : State) (x : ℕ) (p : Set 4) (pass : (c : ℕ) → c < 256 → Decides (in_set p c) (Passes o S x c)) where
  chained : {y : ℕ} → Within S (In p) (λ c. c ≡ root) y → Chain o S x y
  chained (start e) = subst (Chain o S x) (sym e) needs.start
  chained (inside {c = c} w i h) = into (chained w) ((pass c i.0).0 i.1) h

  chain_within : ((c y : ℕ) → Stands S (Holding c y) → c < 256) → {y : ℕ} → Chain o S x y → Within S (In p) (λ c. c ≡ root) y
  chain_within b needs.start = start refl
  chain_within b (into {c = c} {y = y} w q h) = let l = b c y h in inside (chain_within b w) (l, (pass c l).1 q) h

  pub chain_ends : ((c y : ℕ) → Stands S (Holding c y) → c < 256) → (r : Set 4) → ((y : ℕ) → In r y ↔ Within S (In p) (λ c. c ≡ root) y) → (y : ℕ) → y < 256
      → Decides (in_set r y) (Chain o S x y)
  chain_ends b r w y l = (λ e. chained ((w y).0 (l, e)), λ q. ((w y).1 (chain_within b q)).1)
