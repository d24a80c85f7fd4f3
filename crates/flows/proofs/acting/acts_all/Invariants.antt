use Rattle.model.specs.Flows.{Unguarded}
use Rattle.block.specs.Reading.{cards_of}
use Rattle.flows.specs.Rules.{Acts}
use Rattle.flows.specs.Spread.{Spread}
use Rattle.flows.proofs.Steps.{Below}
use Rattle.flows.proofs.acting.acts_all.Given as goal

abbrev pub invariant-loop-s : goal.invariant-loop-s
invariant-loop-s l = Spread l.tables l.initial.relations l.relations l.grew (Below (λ k P. Unguarded (cards_of l.tables) k → Acts k P) l.s)
