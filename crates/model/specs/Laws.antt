-- The laws over whole runs.
use Rattle.std.specs.Prelude.{◌≡◌, ℕ, Bool, true, false, cond, T, ◌⊎◌, ◌↔◌, List, [], ◌∷◌, Some, None, Ok, Err, Option, IsSome}
use Rattle.policy.specs.Order.{Order}
use Rattle.policy.specs.Rule.{Rule}
use Rattle.model.specs.declared.fact.Fact.{Fact}
use Rattle.model.specs.declared.fact.Fact.TheVariants.{Lives, Held, Right, Access, Holding, Flow, Control}
use Rattle.model.specs.declared.request.Request.{Request}
use Rattle.model.specs.declared.request.Kind.{Kind}
use Rattle.model.specs.declared.request.Kind.TheVariants.{Take, Drop, Grant, Revoke, Object, Container, Link, Unlink, Delete, Open, Close, Gain, GiveUp}
use Rattle.model.specs.Answers.{Answer}
use Rattle.model.specs.Records.{Cards, State, Stands, role_of, item_of, level, Entity}
use Rattle.model.specs.Form.{kind_of}
use Rattle.model.specs.Needs.{strong}
use Rattle.model.specs.Flows.{Derived}
use Rattle.model.specs.Runs.{Step, Run, stop, step}

-- all that follows from what stands in S stands there
abbrev pub Settled : State → Type 0
Settled S = (f : Fact) → Derived S.cards S.program (Stands S) f → Stands S f

-- ## One outcome

-- the rules leave one answer to a request, and one state after it
abbrev pub OneOutcome : Order → Rule → Type 0
OneOutcome o h =
    (S S₁ S₂ : State) (q : Request) (a b : Answer) → Step o h S q a S₁ → Step o h S q b S₂ → (a ≡ b) × (S₁ ≡ S₂)

-- ## Replay

-- every kind gives but drop, revoke, unlink, delete, close and give up
abbrev pub giving : Kind → Bool
giving Take = true
giving Drop = false
giving Grant = true
giving Revoke = false
giving Object = true
giving Container = true
giving Link = true
giving Unlink = false
giving Delete = false
giving Open = true
giving Close = false
giving Gain = true
giving GiveUp = false

abbrev pub is_giving : Option Kind → Bool
is_giving None = false
is_giving (Some k) = giving k

-- of requests and their answers, the accepted requests that give, in order
abbrev pub kept : List Request → List Answer → List Request
kept [] ans = []
kept (q ∷ qs) [] = []
kept (q ∷ qs) (Ok _ ∷ ans) = cond (is_giving (kind_of q.k)) (q ∷ kept qs ans) (kept qs ans)
kept (q ∷ qs) (Err _ ∷ ans) = kept qs ans

abbrev pub AllAccepted : List Answer → Type 0
AllAccepted [] = Unit {0}
AllAccepted (a ∷ ans) = (a ≡ Ok tt) × AllAccepted ans

-- every item alive in M lives in N at the same level, and every fact of M stands in N
pub record StandsIn (M N : State) : Type 0 where
  pub items : (i : ℕ) → Stands M (Lives i) → Stands N (Lives i) × (level N i ≡ level M i)
  pub facts : (f : Fact) → Stands M f → Stands N f

-- a run without its withdrawals is accepted throughout, and all that the run led to stands after it
abbrev pub Replay : Order → Rule → Type 0
Replay o h =
    (start M N : State) (qs : List Request) (ans bs : List Answer) → Settled start → Run o h start qs ans M → Run o h start (kept qs ans) bs N → AllAccepted bs × StandsIn M N

-- ## Isolation

-- the level condition of a fact, and that its items were named
abbrev pub Fits : Order → Cards → Fact → Type 0
Fits o C (Lives i) = IsSome (C.items i)
Fits o C (Held s r) = IsSome (C.items s) × T (o.below (role_of C r).level (item_of C s).level)
Fits o C (Right r i m) =
    IsSome (C.items i) × (T (strong m) → T (o.below (item_of C i).level (role_of C r).level))
Fits o C (Access s i m) =
    IsSome (C.items s) × IsSome (C.items i) × (T (strong m) → T (o.below (item_of C i).level (item_of C s).level))
Fits o C (Holding c e) =
    IsSome (C.items c) × IsSome (C.items e) × Entity e × T (o.below (item_of C e).level (item_of C c).level)
Fits o C (Flow a b) = Unit {0}
Fits o C (Control s t) = Unit {0}

abbrev pub Sound : Order → State → Type 0
Sound o S = (f : Fact) → Stands S f → Fits o S.cards f

-- item i lives at or above the level L
abbrev pub High : Order → ℕ → State → ℕ → Type 0
High o L S i = Stands S (Lives i) × T (o.below L (level S i))

-- no accepted request of the run comes from a session at or above L
abbrev pub Quiet : (o : Order) (h : Rule) (L : ℕ) {S S' : State} {qs : List Request} {ans : List Answer} → Run o h S qs ans S' → Type 0
Quiet o h L stop = Unit {0}
Quiet o h L (step {S} {q} {a} s r) = (a ≡ Ok tt → ¬ High o L S q.x) × Quiet o h L r

-- the facts of the items at or above L: that they live, the roles that they hold, all rights on them, their accesses to each
-- other, what they hold and what they lie in
abbrev pub OfHigh : Order → ℕ → State → Fact → Type 0
OfHigh o L S (Lives i) = High o L S i
OfHigh o L S (Held s r) = High o L S s
OfHigh o L S (Right r i m) = High o L S i
OfHigh o L S (Access s i m) = High o L S s × High o L S i
OfHigh o L S (Holding c e) = High o L S c ⊎ High o L S e
OfHigh o L S (Flow a b) = ⊥
OfHigh o L S (Control s t) = ⊥

-- the same items live at or above L, and their levels and facts are as they were
pub record Unchanged (o : Order) (L : ℕ) (S S' : State) : Type 0 where
  pub items : (i : ℕ) → High o L S i ↔ High o L S' i
  pub levels : (i : ℕ) → High o L S i → level S' i ≡ level S i
  pub facts : (f : Fact) → OfHigh o L S f → S'.stands f ≡ S.stands f

-- nothing at or above a level changes but by an accepted request from there
abbrev pub Isolation : Order → Rule → Type 0
Isolation o h =
    (L : ℕ) (start S S' : State) (qs rs : List Request) (ans bs : List Answer) → Sound o start → Run o h start qs ans S → (stretch : Run o h S rs bs S') → Quiet o h L stretch → Unchanged o L S S'
