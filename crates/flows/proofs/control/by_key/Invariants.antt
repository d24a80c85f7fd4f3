use Rattle.flows.specs.Spread.{Spread}
use Rattle.flows.specs.Rules.{ByFlow}
use Rattle.flows.proofs.Steps.{Below}
use Rattle.flows.proofs.control.by_key.Given as goal

abbrev pub invariant-loop-s : goal.invariant-loop-s
invariant-loop-s l = Spread l.tables l.initial.relations l.relations l.grew (Below (λ k. ByFlow l.e k k l.t) l.s)
