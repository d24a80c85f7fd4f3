use Rattle.sets.proofs.Steps.{both, weaken}
use Rattle.block.specs.Reading.{cards_of}
use Rattle.flows.specs.Spread.{Has, program_of}
use Rattle.flows.specs.Rules.{Closed}
use Rattle.flows.proofs.Steps.{rules}
use Rattle.flows.proofs.settling.spread.Goals as goal

pub returns : goal.returns
returns c =
    let t = c.args.tables.now in
    weaken (rules t) (λ x. Closed (cards_of t) (program_of t) (Has t x)) (λ p. record { controlled = p.0.0.0; onward = p.0.0.1; acts = p.0.1; passing = p.1 })
    (both (rules t) (both (rules t) (both (rules t) c.controlled_all-grew.ensures (c.onward_all-grew.ensures t)) c.acts_all-grew.ensures) (c.passing_all-grew.ensures t))
