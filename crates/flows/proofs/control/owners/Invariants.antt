use Rattle.flows.specs.Rules.{Owner}
use Rattle.flows.specs.Spread.{Spread}
use Rattle.flows.proofs.Steps.{Below}
use Rattle.flows.proofs.control.owners.Given as goal

abbrev pub invariant-loop-s : goal.invariant-loop-s
invariant-loop-s l = Spread l.tables l.initial.relations l.relations l.grew (Below (λ k. Owner k l.t) l.s)
