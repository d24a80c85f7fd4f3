use Rattle.sets.proofs.Steps.{both, weaken}
use Rattle.flows.specs.Spread.{Has}
use Rattle.flows.specs.Rules.{Touch}
use Rattle.flows.proofs.Steps.{rules}
use Rattle.flows.proofs.acting.touch.Goals as goal

pub returns : goal.returns
returns c =
    let t = c.args.tables.now in
    weaken (rules t) (λ x. Touch c.args.s c.args.e (Has t x)) (λ p. record { writing = p.0.0; reading = p.0.1; inward = p.1 })
    (both (rules t) (both (rules t) c.writing-grew.ensures c.reading-grew.ensures) (c.inward-grew.ensures t c.requires.s))
