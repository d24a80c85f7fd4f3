use Rattle.block.specs.Reading.{cards_of}
use Rattle.sets.proofs.Steps.{both, weaken}
use Rattle.flows.specs.Spread.{Has, program_of}
use Rattle.flows.specs.Rules.{ByKey, Controlled}
use Rattle.flows.proofs.Steps.{rules}
use Rattle.flows.proofs.control.controlled.Goals as goal

pub returns : goal.returns
returns c =
    let t = c.args.tables.now in
    weaken (rules t) (λ x. Controlled (cards_of t) (program_of t) c.args.t (Has t x))
    (λ p. record { itself = p.0.0.0; owner = p.0.0.1; by_program = p.0.1; by_key = p.1 })
    (both (rules t) {Q = λ x. ByKey (cards_of t) c.args.t (Has t x)} (both (rules t) (both (rules t) c.itself-grew.ensures c.owners-grew.ensures) c.by_program-grew.ensures) c.by_key-grew.ensures)
