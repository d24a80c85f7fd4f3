-- Flows and control: the least relations that contain what is left from before and obey the seven rules.
use Rattle.std.specs.Prelude.{◌≡◌, ℕ, not, T, ◌≢◌, ◌↔◌}
use Rattle.model.specs.declared.fact.Fact.{Fact}
use Rattle.model.specs.declared.fact.Fact.TheVariants.{Lives, Access, Flow, Control}
use Rattle.model.specs.declared.fact.Mode.TheVariants.{Read, Write, Own}
use Rattle.model.specs.Records.{Cards, State, Stands, account_of, Session}

-- a session is unguarded if its account is
abbrev pub Unguarded : Cards → ℕ → Type 0
Unguarded C s = Session s × T (not (account_of C (C.account s)).guarded)

-- the key of a session's account
abbrev pub key : Cards → ℕ → ℕ
key C t = (account_of C (C.account t)).key

-- The facts that follow from those of Before, with these cards and programs.
pub data Derived (C : Cards) (program : ℕ → ℕ) (Before : Fact → Type 0) : Fact → Type 0 where
  before : {f : Fact} → Before f → Derived C program Before f
  -- a live session controls itself, and each session that it has own access to
  itself : {s : ℕ} → Session s → Derived C program Before (Lives s) → Derived C program Before (Control s s)
  owner : {s t : ℕ} → Session s → Session t → Derived C program Before (Access s t Own) → Derived C program Before (Control s t)
  -- who controls t controls all that t controls
  onward : {s t u : ℕ} → Derived C program Before (Control s t) → Derived C program Before (Control t u) → Derived C program Before (Control s u)
  -- what an unguarded session controls writes for it and reads for it
  writing : {s t e : ℕ} → Unguarded C s → Derived C program Before (Control s t) → Derived C program Before (Access t e Write) → Derived C program Before (Flow s e)
  reading : {s t e : ℕ} → Unguarded C s → Derived C program Before (Control s t) → Derived C program Before (Access t e Read) → Derived C program Before (Flow e s)
  -- flows go on
  passing : {a b c : ℕ} → Derived C program Before (Flow a b) → Derived C program Before (Flow b c) → Derived C program Before (Flow a c)
  -- a flow from a session to t's program gives it control of t
  by_program : {s t : ℕ} → Session s → Session t → program t ≢ 0 → Derived C program Before (Flow s (program t)) → Derived C program Before (Control s t)
  -- so does a flow to it from the key of t's account
  by_key : {s t : ℕ} → Session s → Session t → Derived C program Before (Lives t) → key C t ≢ 0 → Derived C program Before (Flow (key C t) s) → Derived C program Before (Control s t)
  -- an unguarded session shares the flows of what it controls
  outward : {s t e : ℕ} → Unguarded C s → Derived C program Before (Control s t) → Derived C program Before (Flow t e) → Derived C program Before (Flow s e)
  inward : {s t e : ℕ} → Unguarded C s → Derived C program Before (Control s t) → Derived C program Before (Flow e t) → Derived C program Before (Flow e s)

-- S is the state given, with all that follows
pub record Settles (given S : State) : Type 0 where
  pub cards : S.cards ≡ given.cards
  pub program : S.program ≡ given.program
  pub parent : S.parent ≡ given.parent
  pub facts : (f : Fact) → Stands S f ↔ Derived given.cards given.program (Stands given) f
