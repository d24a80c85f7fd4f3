-- How many flows and how much control the relations lack: fewer after each step that adds one.
use Rattle.std.proofs.Common.{◌≡◌, ℕ, ◌+◌, ◌-◌, ◌*◌, ◌/◌, ◌%◌, ◌<◌, Bool, true, false, ltb, sym, ap, ◌∙◌, ap₂, arith}
use Rattle.std.proofs.lemmas.Bool.{false≢true, lt-ltb, le-ltb}
use Rattle.sets.specs.Least.{Told}
use Rattle.sets.proofs.Count.{lacks, lacks_lt}
use Rattle.model.specs.declared.fact.Fact.{Fact}
use Rattle.model.specs.declared.fact.Fact.TheVariants.{Lives, Held, Right, Access, Holding, Flow, Control}
use Rattle.block.specs.declared.tables.Tables.{Tables}
use Rattle.block.specs.declared.relations.Relations.{Relations}
use Rattle.block.specs.Reading.{standing}
use Rattle.flows.specs.Spread.{Has, Lacks}
use Rattle.flows.proofs.Places.{is_true, from_true, denied, of_flow, of_control}

-- flows and control by number: 65,536 flows, and then 4,096 of control
pick : Bool → ℕ → Fact
pick true k = Flow (k / 256) (k % 256)
pick false k = Control ((k - 65536) / 64) ((k - 65536) % 64)

fact : ℕ → Fact
fact k = pick (ltb k 65536) k

pub missing : Tables → Relations → ℕ
missing t r = lacks (λ k. standing t r (fact k)) 69632

-- the number of a fact
Numbered : Fact → Type 0
Numbered f = (k : ℕ) × (k < 69632) × (fact k ≡ f)

flow_numbered : (a b : ℕ) → a < 256 → b < 256 → Numbered (Flow a b)
unfolding Numbered fact pick
flow_numbered a b i j = (
  a * 256 + b,
  omega arith,
  ap (λ (t : Bool). pick t (a * 256 + b)) (lt-ltb (a * 256 + b) 65536 (omega arith)) ∙ ap₂ Flow (omega arith) (omega arith),
)

control_numbered : (s u : ℕ) → s < 64 → u < 64 → Numbered (Control s u)
unfolding Numbered fact pick
control_numbered s u i j = (
  65536 + (s * 64 + u),
  omega arith,
  ap (λ (t : Bool). pick t (65536 + (s * 64 + u))) (le-ltb (65536 + (s * 64 + u)) 65536 (omega arith)) ∙ ap₂ Control (omega arith) (omega arith),
)

-- a fact that is new is a flow or control
new_numbered : (t : Tables) (old new : Relations) (f : Fact) → Lacks t old f → Has t new f → Numbered f
new_numbered t old new (Lives i) l h = denied _ (sym l) h
new_numbered t old new (Held s k) l h = denied _ (sym l) h
new_numbered t old new (Right k i m) l h = denied _ (sym l) h
new_numbered t old new (Access s i m) l h = denied _ (sym l) h
new_numbered t old new (Holding c e) l h = denied _ (sym l) h
new_numbered t old new (Flow a b) l h = let p = of_flow t new a b h in flow_numbered a b p.0 p.1
new_numbered t old new (Control s u) l h = let p = of_control t new s u h in control_numbered s u p.0 p.1

pub fewer : (t : Tables) (old new : Relations) (g : Bool) → g ≡ true → ((f : Fact) → Has t old f → Has t new f) → Told (Has t) (Lacks t) old new g
    → missing t new < missing t old
unfolding missing Numbered
fewer t old new false e kept told = absurd (false≢true e)
fewer t old new true e kept told =
    let n = new_numbered t old new told.0 told.1 told.2 in
    lacks_lt (λ k. standing t old (fact k)) (λ k. standing t new (fact k)) 69632
    (λ k l h. is_true (standing t new (fact k)) (kept (fact k) (from_true (standing t old (fact k)) h))) n.0 n.1
    (ap (standing t old) n.2 ∙ told.1) (ap (standing t new) n.2 ∙ is_true (standing t new told.0) told.2)
