-- Steps towards all that follows.
use Rattle.std.proofs.Common.{◌≡◌, ℕ, ◌+◌, ◌<◌, ◌≤◌, Bool, false, ◌||◌, arith}
use Rattle.sets.proofs.Steps.{System, still, spread_one, weaken, more}
use Rattle.model.specs.declared.fact.Fact.{Fact}
use Rattle.model.specs.declared.fact.Mode.TheVariants.{Read, Write}
use Rattle.model.specs.Records.{Cards, Session}
use Rattle.model.specs.Flows.{Derived, before, itself, owner, onward, writing, reading, passing, by_program, by_key, outward, inward}
use Rattle.block.specs.declared.tables.Tables.{Tables}
use Rattle.block.specs.declared.relations.Relations.{Relations}
use Rattle.block.specs.Reading.{cards_of}
use Rattle.flows.specs.Spread.{Has, Lacks, Follows, Law, Joined, Spread, program_of}
use Rattle.flows.specs.Rules.{Closed}
use Rattle.flows.proofs.Places.{of_flow, of_control, of_access}

-- what follows from what follows, follows
pub cut : {C : Cards} {program : ℕ → ℕ} {A B : Fact → Type 0} → ((f : Fact) → A f → Derived C program B f) → {f : Fact} → Derived C program A f
    → Derived C program B f
cut h (before {f = f} x) = h f x
cut h (itself i x) = itself i (cut h x)
cut h (owner i j x) = owner i j (cut h x)
cut h (onward x y) = onward (cut h x) (cut h y)
cut h (writing g x y) = writing g (cut h x) (cut h y)
cut h (reading g x y) = reading g (cut h x) (cut h y)
cut h (passing x y) = passing (cut h x) (cut h y)
cut h (by_program i j n x) = by_program i j n (cut h x)
cut h (by_key i j x n y) = by_key i j (cut h x) n (cut h y)
cut h (outward g x y) = outward g (cut h x) (cut h y)
cut h (inward g x y) = inward g (cut h x) (cut h y)

abbrev pub rules : Tables → System Relations Fact
rules t = record { has = Has t; lacks = Lacks t; follows = Follows t; before = λ B f h. before h; cut = λ A B h f d. cut h d }

-- what has everything from before and obeys the rules, has all that follows
pub whole : (t : Tables) (old new : Relations) → ((f : Fact) → Has t old f → Has t new f) → Closed (cards_of t) (program_of t) (Has t new) → {f : Fact}
    → Follows t (Has t old) f → Has t new f
whole t old new k c (before {f = f} x) = k f x
whole t old new k c (itself {s = s} i x) = (c.controlled s i).itself (whole t old new k c x)
whole t old new k c (owner {s = s} {t = u} i j x) = (c.controlled u j).owner s i (whole t old new k c x)
whole t old new k c (onward {s = s} {t = u} {u = v} x y) =
    let h = whole t old new k c x in
    let p = of_control t new s u h in c.onward u p.1 s p.0 v h (whole t old new k c y)
whole t old new k c (writing {s = s} {t = u} {e = e} g x y) =
    let a = whole t old new k c y in ((c.acts s g.0 g).touches e (of_access t new u e Write a).1).writing u (whole t old new k c x) a
whole t old new k c (reading {s = s} {t = u} {e = e} g x y) =
    let a = whole t old new k c y in ((c.acts s g.0 g).touches e (of_access t new u e Read a).1).reading u (whole t old new k c x) a
whole t old new k c (passing {a = a} {b = b} {c = d} x y) =
    let h = whole t old new k c x in
    let p = of_flow t new a b h in c.passing b p.1 a p.0 d h (whole t old new k c y)
whole t old new k c (by_program {s = s} {t = u} i j n x) = (c.controlled u j).by_program s i n (whole t old new k c x)
whole t old new k c (by_key {s = s} {t = u} i j x n y) = (c.controlled u j).by_key s i (whole t old new k c x) n (whole t old new k c y)
whole t old new k c (outward {s = s} {t = u} {e = e} g x y) =
    let h = whole t old new k c x in (c.acts s g.0 g).outward u (of_control t new s u h).1 e h (whole t old new k c y)
whole t old new k c (inward {s = s} {t = u} {e = e} g x y) =
    let i = whole t old new k c y in ((c.acts s g.0 g).touches e (of_flow t new e u i).0).inward u (whole t old new k c x) i

-- nothing is added
pub stays : (t : Tables) (r : Relations) (law : Law) → law (Has t r) → Spread t r r false law
stays t r law = still (rules t) r (λ x. law (Has t x))

-- one fact is added
pub adds : (t : Tables) (old new : Relations) (g : Bool) (f : Fact) (law : Law) → Joined t old new g (λ x. x ≡ f)
    → Follows t (Has t old) f → (Has t new f → law (Has t new)) → Spread t old new g law
adds t old new g f law = spread_one (rules t) old new g f (λ x. law (Has t x))

-- ## A loop over the sessions, from 1

abbrev pub Below : (ℕ → Law) → ℕ → Law
Below law i P = (k : ℕ) → k < i → Session k → law k P

pub sessions_none : (t : Tables) (r : Relations) (law : ℕ → Law) → Spread t r r false (Below law 1)
sessions_none t r law = stays t r (Below law 1) (λ k l s. absurd (omega arith))

pub sessions_more : (t : Tables) {old mid new : Relations} {g h : Bool} (law : ℕ → Law) (i : ℕ) → Spread t old mid g (Below law i)
    → Spread t mid new h (law i) → Spread t old new (g || h) (Below law (i + 1))
sessions_more t law i s u =
    more (rules t) (λ k x. Session k → law k (Has t x)) i s (weaken (rules t) (λ x. Session i → law i (Has t x)) (λ p _. p) u)

pub sessions_all : (t : Tables) {old new : Relations} {g : Bool} (law : ℕ → Law) (i : ℕ) → 64 ≤ i → Spread t old new g (Below law i)
    → Spread t old new g (λ P. (k : ℕ) → Session k → law k P)
sessions_all t law i l s = weaken (rules t) (λ x. (k : ℕ) → Session k → law k (Has t x)) (λ p k n. p k (omega arith) n) s
