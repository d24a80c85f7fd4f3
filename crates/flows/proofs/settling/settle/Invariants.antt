use Rattle.model.specs.declared.fact.Fact.{Fact}
use Rattle.flows.specs.Spread.{Has, Follows}
use Rattle.flows.proofs.Missing.{missing}
use Rattle.flows.proofs.settling.settle.Given as goal

abbrev pub invariant-loop : goal.invariant-loop
invariant-loop l =
    ((f : Fact) → Has l.tables l.initial.relations f → Has l.tables l.relations f)
    × ((f : Fact) → Has l.tables l.relations f → Follows l.tables (Has l.tables l.initial.relations) f)

abbrev pub decreases-loop : goal.decreases-loop
decreases-loop l = missing l.tables l.relations
