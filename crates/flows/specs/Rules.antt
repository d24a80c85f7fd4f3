-- The rules of flows and control at given numbers, as laws of the facts P that stand.
use Rattle.std.specs.Prelude.{ℕ, ◌<◌, ◌≢◌}
use Rattle.model.specs.declared.fact.Fact.{Fact}
use Rattle.model.specs.declared.fact.Fact.TheVariants.{Lives, Access, Flow, Control}
use Rattle.model.specs.declared.fact.Mode.TheVariants.{Read, Write, Own}
use Rattle.model.specs.Records.{Cards, Session}
use Rattle.model.specs.Flows.{Unguarded, key}
use Rattle.flows.specs.Spread.{Law}

abbrev pub Itself : ℕ → Law
Itself s P = P (Lives s) → P (Control s s)

abbrev pub Owner : ℕ → ℕ → Law
Owner s t P = P (Access s t Own) → P (Control s t)

abbrev pub Onward : ℕ → ℕ → Law
Onward s t P = (u : ℕ) → P (Control s t) → P (Control t u) → P (Control s u)

abbrev pub Writing : ℕ → ℕ → Law
Writing s e P = (t : ℕ) → P (Control s t) → P (Access t e Write) → P (Flow s e)

abbrev pub Reading : ℕ → ℕ → Law
Reading s e P = (t : ℕ) → P (Control s t) → P (Access t e Read) → P (Flow e s)

abbrev pub Passing : ℕ → ℕ → Law
Passing a b P = (c : ℕ) → P (Flow a b) → P (Flow b c) → P (Flow a c)

-- a flow from a to b gives s control of t
abbrev pub ByFlow : ℕ → ℕ → ℕ → ℕ → Law
ByFlow a b s t P = P (Flow a b) → P (Control s t)

-- for t's program and key, and every session s
abbrev pub ByProgram : (ℕ → ℕ) → ℕ → Law
ByProgram program t P = (s : ℕ) → Session s → program t ≢ 0 → ByFlow s (program t) s t P

abbrev pub ByKey : Cards → ℕ → Law
ByKey C t P = (s : ℕ) → Session s → P (Lives t) → key C t ≢ 0 → ByFlow (key C t) s s t P

abbrev pub Outward : ℕ → ℕ → Law
Outward s t P = (e : ℕ) → P (Control s t) → P (Flow t e) → P (Flow s e)

abbrev pub Inward : ℕ → ℕ → Law
Inward s e P = (t : ℕ) → P (Control s t) → P (Flow e t) → P (Flow e s)

-- all that gives control of t, but control of who controls it
pub record Controlled (C : Cards) (program : ℕ → ℕ) (t : ℕ) (P : Fact → Type 0) : Type 0 where
  pub itself : Itself t P
  pub owner : (s : ℕ) → Session s → Owner s t P
  pub by_program : ByProgram program t P
  pub by_key : ByKey C t P

-- what a session and an item share through the sessions that it controls
pub record Touch (s e : ℕ) (P : Fact → Type 0) : Type 0 where
  pub writing : Writing s e P
  pub reading : Reading s e P
  pub inward : Inward s e P

pub record Acts (s : ℕ) (P : Fact → Type 0) : Type 0 where
  pub outward : (t : ℕ) → t < 64 → Outward s t P
  pub touches : (e : ℕ) → e < 256 → Touch s e P

-- every rule holds
pub record Closed (C : Cards) (program : ℕ → ℕ) (P : Fact → Type 0) : Type 0 where
  pub controlled : (t : ℕ) → Session t → Controlled C program t P
  pub onward : (t : ℕ) → t < 64 → (s : ℕ) → s < 64 → Onward s t P
  pub acts : (s : ℕ) → Session s → Unguarded C s → Acts s P
  pub passing : (b : ℕ) → b < 256 → (a : ℕ) → a < 256 → Passing a b P
