-- A set by its words: one word changed, and the union, word by word.
use Rattle.std.proofs.Common.{◌≡◌, ℕ, zero, suc, ◌+◌, ◌*◌, ◌/◌, ◌%◌, ◌<◌, ◌≤◌, Bool, true, false, not, ◌&&◌, ◌||◌, eqb, ltb, ◌⊎◌, length, get_or, set, replicate, MatchBool, sym, refl, ap, ◌∙◌, ap₂, subst, inl, inr, arith, length-set}
use Rattle.std.proofs.lemmas.List.{get_or-set_same, get_or-set_other, set-get_or, get_or_past}
use Rattle.std.proofs.lemmas.Bool.{cases_eq, cases_lt, ne_eqb, lt-ltb, le-ltb}
use Rattle.std.proofs.lemmas.Slice.Zip.{length-zip, get_or-zip}
use Rattle.std.proofs.lemmas.Bool.Decides.{nat_tests}
use Rattle.std.specs.List.{zip, HoldsAt, AllWithin}
use Rattle.sets.specs.declared.set.Set.{Set}
use Rattle.sets.specs.Member.{bit, in_set}
use Rattle.sets.proofs.Bit.{bit_none}

abbrev pub put : {W : ℕ} → Set W → ℕ → ℕ → Set W
put s j w = record { words = set s.words j w }

abbrev pub word : {W : ℕ} → Set W → ℕ → ℕ
word s j = get_or s.words j 0

module _ {W : ℕ} (s : Set W) (j w k : ℕ) where
  put_same : j < length s.words → k / 64 ≡ j → in_set (put s j w) k ≡ bit w (k % 64)
  unfolding in_set
  put_same h e =
      ap (λ (x : ℕ). bit (get_or (set s.words j w) x 0) (k % 64)) e
      ∙ ap (λ (x : ℕ). bit x (k % 64)) (get_or-set_same s.words j w 0 h)

  put_other : (k / 64 ≡ j → ⊥) → in_set (put s j w) k ≡ in_set s k
  unfolding in_set
  put_other ne = ap (λ (x : ℕ). bit x (k % 64)) (get_or-set_other s.words j (k / 64) w 0 ne)

pub at_word : {W : ℕ} (s : Set W) (j k : ℕ) → k / 64 ≡ j → bit (word s j) (k % 64) ≡ in_set s k
unfolding in_set
at_word s j k e = ap (λ (x : ℕ). bit (word s x) (k % 64)) (sym e)

-- past the last word there is no number
pub past : {W : ℕ} (s : Set W) (k : ℕ) → length s.words ≤ k / 64 → in_set s k ≡ false
unfolding in_set
past s k h = ap (λ (x : ℕ). bit x (k % 64)) (get_or_past s.words (k / 64) 0 h) ∙ bit_none (k % 64)

pub zeros : (n j : ℕ) → let none : ℕ = 0 in get_or (replicate n none) j none ≡ none
zeros zero j = refl
zeros (suc n) zero = refl
zeros (suc n) (suc j) = zeros n j

-- a change at the number i: f says what becomes of a member, and leaves every other number alone
pub changed_at : {W : ℕ} (f : Bool → Bool → Bool) → ((x : Bool) → f false x ≡ x) → (s : Set W) (i w : ℕ)
    → i / 64 < length s.words → ((k : ℕ) → bit w k ≡ f (eqb k (i % 64)) (bit (word s (i / 64)) k))
    → (k : ℕ) → in_set (put s (i / 64) w) k ≡ f (eqb k i) (in_set s k)
changed_at f idle s i w h new k = at (cases_eq (k / 64) (i / 64))
  where
    tie : (a b : ℕ) → a / 64 ≡ b / 64 → eqb (a % 64) (b % 64) ≡ eqb a b
    tie a b e = grind (arith, nat_tests)

    apart : (a b : ℕ) → (a / 64 ≡ b / 64 → ⊥) → eqb a b ≡ false
    apart a b ne = ne_eqb a b (λ e. ne (ap (λ (x : ℕ). x / 64) e))

    at : ((k / 64 ≡ i / 64) ⊎ (k / 64 ≡ i / 64 → ⊥)) → in_set (put s (i / 64) w) k ≡ f (eqb k i) (in_set s k)
    at (inl e) = put_same s (i / 64) w k h e ∙ new (k % 64) ∙ ap₂ f (tie k i e) (at_word s (i / 64) k e)
    at (inr ne) =
        put_other s (i / 64) w k ne ∙ sym (idle (in_set s k)) ∙ ap (λ (x : Bool). f x (in_set s k)) (sym (apart k i ne))

-- a word put back as it was
pub put_back : {W : ℕ} (s : Set W) (j w : ℕ) → w ≡ word s j → put s j w ≡ s
put_back s j w e = λ n. record { words = (ap (λ (x : ℕ). set s.words j x) e ∙ set-get_or s.words j 0) n }

-- the union of the words below n is done
pub record Merged {W : ℕ} (n : ℕ) (old other new : Set W) (grew : Bool) : Type 0 where
  pub long : length new.words ≡ W
  pub members : (k : ℕ) → in_set new k ≡ (in_set old k || (ltb (k / 64) n && in_set other k))
  pub told : MatchBool grew ((k : ℕ) × (k < 64 * W) × (in_set old k ≡ false) × (in_set new k ≡ true)) (new ≡ old)

pub or_false : (x : Bool) → (x || false) ≡ x
or_false true = refl
or_false false = refl

or_keeps : (x y : Bool) → x ≡ true → (x || y) ≡ true
or_keeps x y e = ap (λ (z : Bool). z || y) e

pub merged_none : {W : ℕ} (old other : Set W) → length old.words ≡ W → Merged 0 old other old false
merged_none old other long =
    record {
      long = long;
      members = λ k. sym (ap (λ (x : Bool). in_set old k || (x && in_set other k)) (le-ltb (k / 64) 0 (omega arith)) ∙ or_false (in_set old k));
      told = refl;
    }

module _ {W : ℕ} (n : ℕ) (old other new : Set W) (grew : Bool) (m : Merged n old other new grew) (h : n < W) (w : ℕ) (r : Bool)
    (put_in : (k : ℕ) → bit w k ≡ (bit (word new n) k || bit (word other n) k))
    (tells-so : MatchBool r ((k : ℕ) × (k < 64) × (bit (word new n) k ≡ false) × (bit w k ≡ true)) (w ≡ word new n)) where
  within : n < length new.words
  within = omega (arith, m.long)

  -- nothing of the word n was added before
  fresh : (k : ℕ) → k / 64 ≡ n → in_set new k ≡ in_set old k
  fresh k e =
      m.members k ∙ ap (λ (x : Bool). in_set old k || (x && in_set other k)) (le-ltb (k / 64) n (omega arith)) ∙ or_false (in_set old k)

  more_members : (k : ℕ) → in_set (put new n w) k ≡ (in_set old k || (ltb (k / 64) (n + 1) && in_set other k))
  more_members k = at (cases_eq (k / 64) n)
    where
      at : ((k / 64 ≡ n) ⊎ (k / 64 ≡ n → ⊥)) → in_set (put new n w) k ≡ (in_set old k || (ltb (k / 64) (n + 1) && in_set other k))
      at (inl e) =
          put_same new n w k within e ∙ put_in (k % 64)
          ∙ ap₂ ◌||◌ (at_word new n k e ∙ fresh k e) (at_word other n k e)
          ∙ ap (λ (x : Bool). in_set old k || (x && in_set other k)) (sym (lt-ltb (k / 64) (n + 1) (omega arith)))
      at (inr ne) =
          put_other new n w k ne ∙ m.members k ∙ ap (λ (x : Bool). in_set old k || (x && in_set other k)) (later (k / 64) n ne)
        where
          later : (a b : ℕ) → (a ≡ b → ⊥) → ltb a b ≡ ltb a (b + 1)
          later a b d = grind (arith, nat_tests)

  grows : (k : ℕ) → in_set new k ≡ true → in_set (put new n w) k ≡ true
  grows k e = at (cases_eq (k / 64) n)
    where
      at : ((k / 64 ≡ n) ⊎ (k / 64 ≡ n → ⊥)) → in_set (put new n w) k ≡ true
      at (inl i) =
          put_same new n w k within i ∙ put_in (k % 64) ∙ or_keeps _ (bit (word other n) (k % 64)) (at_word new n k i ∙ e)
      at (inr ne) = put_other new n w k ne ∙ e

  -- the number k of the word n, in the whole
  whole : (k : ℕ) → k < 64 → ((n * 64 + k) / 64 ≡ n) × ((n * 64 + k) % 64 ≡ k)
  whole k l = (omega arith, omega arith)

  more_told : (g t : Bool) → MatchBool g ((k : ℕ) × (k < 64 * W) × (in_set old k ≡ false) × (in_set new k ≡ true)) (new ≡ old)
      → MatchBool t ((k : ℕ) × (k < 64) × (bit (word new n) k ≡ false) × (bit w k ≡ true)) (w ≡ word new n)
      → MatchBool (g || t) ((k : ℕ) × (k < 64 * W) × (in_set old k ≡ false) × (in_set (put new n w) k ≡ true)) (put new n w ≡ old)
  more_told true t a b = (a.0, a.1, a.2, grows a.0 a.3)
  more_told false true a b =
      let k = b.0 in
      let e = whole k b.1 in
      let i = n * 64 + k in (
        i,
        omega (arith, b.1),
        sym (fresh i e.0) ∙ sym (at_word new n i e.0) ∙ ap (bit (word new n)) e.1 ∙ b.2,
        put_same new n w i within e.0 ∙ ap (bit w) e.1 ∙ b.3,
      )
  more_told false false a b = put_back new n w b ∙ a

  pub merged_more : Merged (n + 1) old other (put new n w) (grew || r)
  merged_more = record { long = length-set new.words n w ∙ m.long; members = more_members; told = more_told grew r m.told tells-so }

pub merged_all : {W : ℕ} (old other new : Set W) (grew : Bool) → length other.words ≡ W → Merged W old other new grew
    → (k : ℕ) → in_set new k ≡ (in_set old k || in_set other k)
merged_all {W = W} old other new grew long m k = m.members k ∙ ap (λ (x : Bool). in_set old k || x) (at (cases_lt (k / 64) W))
  where
    at : ((k / 64 < W) ⊎ (W ≤ k / 64)) → (ltb (k / 64) W && in_set other k) ≡ in_set other k
    at (inl l) = ap (λ (x : Bool). x && in_set other k) (lt-ltb (k / 64) W l)
    at (inr g) = gone (ltb (k / 64) W) (in_set other k) (past other k (omega arith))
      where
        gone : (x y : Bool) → y ≡ false → (x && y) ≡ y
        gone true y e = refl
        gone false y e = sym e

-- ## Two sets that share a number

pub number_at : {W : ℕ} (s : Set W) (j k : ℕ) → k < 64 → in_set s (j * 64 + k) ≡ bit (word s j) k
unfolding in_set
number_at s j k h = ap₂ (λ (x y : ℕ). bit (word s x) y) (omega arith) (omega arith)

abbrev pub Share : ℕ × ℕ → Type 0
Share p = (k : ℕ) × (k < 64) × (bit p.0 k ≡ true) × (bit p.1 k ≡ true)

abbrev pub Apart : ℕ × ℕ → Type 0
Apart p = (k : ℕ) → bit p.0 k ≡ true → bit p.1 k ≡ false

pub meets_tells : {W : ℕ} (a b : Set W) → length a.words ≡ W → length b.words ≡ W → (r : Bool)
    → MatchBool r ((j : ℕ) × (j < length (zip a.words b.words)) × HoldsAt Share (zip a.words b.words) j) (AllWithin Apart (zip a.words b.words) 0 (length (zip a.words b.words)))
    → MatchBool r ((k : ℕ) × (k < 64 * W) × (in_set a k ≡ true) × (in_set b k ≡ true)) ((k : ℕ) → in_set a k ≡ true → in_set b k ≡ false)
meets_tells {W = W} a b la lb true h =
    let j = h.0 in
    let l : j < W = omega (arith, h.1, length-zip a.words b.words) in
    let s = subst Share (get_or-zip a.words b.words j (0, 0) (omega arith) (omega arith)) (h.2 (0, 0)) in
    let k = s.0 in
    (j * 64 + k, omega (arith, s.1), number_at a j k s.1 ∙ s.2, number_at b j k s.1 ∙ s.3)
meets_tells {W = W} a b la lb false h = λ k e. at k e (cases_lt (k / 64) W)
  where
    at : (k : ℕ) → in_set a k ≡ true → ((k / 64 < W) ⊎ (W ≤ k / 64)) → in_set b k ≡ false
    at k e (inl l) =
        let s = subst Apart (get_or-zip a.words b.words (k / 64) (0, 0) (omega arith) (omega arith)) (h (k / 64) (0, 0) (omega arith) (omega (arith, length-zip a.words b.words))) in
        sym (at_word b (k / 64) k refl) ∙ s (k % 64) (at_word a (k / 64) k refl ∙ e)
    at k e (inr g) = past b k (omega arith)

pub empty_tells : {W : ℕ} (s : Set W) (r : Bool)
    → MatchBool r ((k : ℕ) × (k < 64 * W) × (in_set s k ≡ true) × (in_set s k ≡ true)) ((k : ℕ) → in_set s k ≡ true → in_set s k ≡ false)
    → MatchBool (not r) ((k : ℕ) → in_set s k ≡ false) ((k : ℕ) × (k < 64 * W) × (in_set s k ≡ true))
empty_tells s true h = (h.0, h.1, h.2)
empty_tells s false h = λ k. never (in_set s k) (h k)
  where
    never : (x : Bool) → (x ≡ true → x ≡ false) → x ≡ false
    never true f = f refl
    never false f = refl
