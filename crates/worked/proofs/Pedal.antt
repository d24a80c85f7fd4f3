-- The text of the worked pedal is accepted.
use Rattle.std.proofs.Common.{◌≡◌, ℕ, zero, suc, ◌<◌, Bool, true, not, ◌&&◌, ◌||◌, T, ◌≢◌, List, [], ◌∷◌, is_some, refl, inr, ⊎_elim, arith, lit≤, T_not, below_more}
use Rattle.std.proofs.lemmas.Bool.{and_parts}
use Rattle.sets.specs.Member.{bit}
use Rattle.policy.specs.Order.{ladder}
use Rattle.text.specs.declared.record.Line.{Line}
use Rattle.text.specs.declared.record.Line.TheVariants.{Root, Gate, Account, Role, Container, Object, Session, Right, Held, Access}
use Rattle.text.specs.Lines.{text, numeral, follows, in_range, Accepted, Sound}
use Rattle.model.specs.Records.{State, role_of}
use Rattle.model.specs.Needs.{start, into}
use Rattle.model.proofs.Tests.{parts, either}
use Rattle.start.specs.Setup.{listed}
use Rattle.start.specs.Grounds.{Each, ordinary, Clean}
use Rattle.worked.specs.Worked.{pedal, rule}
use Rattle.worked.proofs.Chains.{◌&◌}

-- its lines, the latest first
abbrev pub lines : List Line
lines =
    Access 1 65 2
    ∷ Held 2 2
    ∷ Held 1 1
    ∷ Held 1 0
    ∷ Right 2 67 2
    ∷ Right 2 66 4
    ∷ Right 2 64 4
    ∷ Right 0 64 4
    ∷ Session 2 1 3 67 0
    ∷ Session 1 0 15 67 0
    ∷ Object 67 3 66
    ∷ Object 65 15 64
    ∷ Container 66 3 0 64
    ∷ Role 2 3 0 0 0
    ∷ Role 1 15 1 5 0
    ∷ Role 0 15 0 0 0
    ∷ Account 1 3 0 4 0
    ∷ Account 0 15 1 3 0
    ∷ Gate 65
    ∷ Root 15 0
    ∷ []

-- ## The first reading

same_text : pedal ≡ text lines
unfolding numeral
same_text = refl

-- each line is in its place and in range
abbrev placed : List Line → Bool
placed [] = true
placed (l ∷ ls) = follows ls l && (in_range l && placed ls)

sound : (ls : List Line) → placed ls ≡ true → Sound ls
sound [] e = tt
sound (l ∷ ls) e =
    let (f, more) = and_parts (follows ls l) (in_range l && placed ls) e in
    let (r, rest) = and_parts (in_range l) (placed ls) more in
    (f, r, sound ls rest)

pub read : Accepted pedal lines
read = record { size = lit≤ tt; whole = same_text; sound = sound lines refl; both = lit≤ tt }

-- ## The second reading

-- each number below n passes the test
abbrev every : (ℕ → Bool) → ℕ → Bool
every test zero = true
every test (suc n) = test n && every test n

one_of : (test : ℕ → Bool) (n : ℕ) → T (every test n) → (r : ℕ) → r < n → T (test r)
one_of test zero t r h = absurd (omega arith)
one_of test (suc n) t r h =
    let (here, below) = parts (test n) (every test n) t in
    below_more (λ r. T (test r)) n (one_of test n below) here r (omega arith)

each : (set : ℕ) (test : ℕ → Bool) → T (every (λ r. not (bit set r) || test r) 32) → Each set test
each set test t r h b =
    ⊎_elim (λ n. absurd (T_not (bit set r) n b)) (λ u. u) (either (not (bit set r)) (test r) (one_of (λ r. not (bit set r) || test r) 32 t r h))

-- nothing is asked of a key or a parent that is 0
none : {A : Type 0} → ◌≢◌ {A = ℕ} 0 0 → A
none n = absurd (n refl)

abbrev pub all : State
all = listed lines

-- line by line, the latest first
pub clean : Clean ladder rule all lines
unfolding bit
clean =
    ((refl, refl) & (λ s. tt) & inr (into {c = 64} start ((0, tt, tt), tt) tt) & tt)
    & ((refl, refl, tt) & tt & tt & tt)
    & ((refl, refl, tt) & tt & tt & tt)
    & ((refl, refl, tt) & tt & tt & tt)
    & ((refl, refl) & (λ s. tt) & tt)
    & ((refl, refl) & (λ s. absurd s) & tt)
    & ((refl, refl) & (λ s. absurd s) & tt)
    & ((refl, refl) & (λ s. absurd s) & tt)
    & ((tt, refl, (λ n. tt), none) & tt & (tt, none) & tt)
    & ((tt, refl, (λ n. tt), none) & tt & (tt, none) & tt)
    & ((tt, tt) & tt & tt & tt)
    & ((tt, tt) & tt & tt & tt)
    & ((tt, tt, lit≤ tt) & tt & tt & tt)
    & ((tt, each 0 (ordinary all) tt, none) & tt & tt)
    & ((tt, each 5 (ordinary all) tt, none) & tt & tt)
    & ((tt, each 0 (ordinary all) tt, none) & tt & tt)
    & ((tt, each 4 (λ r. is_some (all.cards.roles r)) tt, none) & tt & (each 4 (λ r. ladder.below (role_of all.cards r).level 3) tt, none) & tt)
    & ((tt, each 3 (λ r. is_some (all.cards.roles r)) tt, none) & tt & (each 3 (λ r. ladder.below (role_of all.cards r).level 15) tt, none) & tt)
    & (tt & refl & tt)
    & (tt & tt)
    & tt
