-- What follows is the least that contains what it follows from and obeys the rules of flows and control.
use Rattle.std.proofs.Common.{ℕ, ◌≢◌}
use Rattle.model.specs.declared.fact.Fact.{Fact}
use Rattle.model.specs.declared.fact.Fact.TheVariants.{Lives, Access, Flow, Control}
use Rattle.model.specs.declared.fact.Mode.TheVariants.{Read, Write, Own}
use Rattle.model.specs.Records.{Cards, Session}
use Rattle.model.specs.Flows.{Unguarded, key, Derived, before, itself, owner, onward, writing, reading, passing, by_program, by_key, outward, inward}

-- the seven rules, of the facts that P has
pub record Obeys (C : Cards) (program : ℕ → ℕ) (P : Fact → Type 0) : Type 0 where
  pub itself : (s : ℕ) → Session s → P (Lives s) → P (Control s s)
  pub owner : (s t : ℕ) → Session s → Session t → P (Access s t Own) → P (Control s t)
  pub onward : (s t u : ℕ) → P (Control s t) → P (Control t u) → P (Control s u)
  pub writing : (s t e : ℕ) → Unguarded C s → P (Control s t) → P (Access t e Write) → P (Flow s e)
  pub reading : (s t e : ℕ) → Unguarded C s → P (Control s t) → P (Access t e Read) → P (Flow e s)
  pub passing : (a b c : ℕ) → P (Flow a b) → P (Flow b c) → P (Flow a c)
  pub by_program : (s t : ℕ) → Session s → Session t → program t ≢ 0 → P (Flow s (program t)) → P (Control s t)
  pub by_key : (s t : ℕ) → Session s → Session t → P (Lives t) → key C t ≢ 0 → P (Flow (key C t) s) → P (Control s t)
  pub outward : (s t e : ℕ) → Unguarded C s → P (Control s t) → P (Flow t e) → P (Flow s e)
  pub inward : (s t e : ℕ) → Unguarded C s → P (Control s t) → P (Flow e t) → P (Flow e s)

pub least : {C : Cards} {p : ℕ → ℕ} {B Q : Fact → Type 0} {f : Fact} → ((g : Fact) → B g → Q g) → Obeys C p Q → Derived C p B f → Q f
least k o (before b) = k _ b
least k o (itself s d) = o.itself _ s (least k o d)
least k o (owner s t d) = o.owner _ _ s t (least k o d)
least k o (onward c d) = o.onward _ _ _ (least k o c) (least k o d)
least k o (writing u c d) = o.writing _ _ _ u (least k o c) (least k o d)
least k o (reading u c d) = o.reading _ _ _ u (least k o c) (least k o d)
least k o (passing c d) = o.passing _ _ _ (least k o c) (least k o d)
least k o (by_program s t n d) = o.by_program _ _ s t n (least k o d)
least k o (by_key s t l n d) = o.by_key _ _ s t (least k o l) n (least k o d)
least k o (outward u c d) = o.outward _ _ _ u (least k o c) (least k o d)
least k o (inward u c d) = o.inward _ _ _ u (least k o c) (least k o d)
