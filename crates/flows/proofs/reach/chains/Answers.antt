use Rattle.block.specs.Reading.{state}
use Rattle.flows.proofs.Places.{of_holding}
use Rattle.flows.proofs.Ways.{chain_ends}
use Rattle.flows.proofs.reach.chains.Goals as goal

pub returns : goal.returns
returns g c =
    chain_ends (g.O.LevelOrder.meaning c.args.order.now) (state c.args.records.now) c.args.x c.passing-containers.result c.passing-containers.ensures
    (λ z y h. (of_holding c.args.records.now z y h).0) c.within.result c.within.ensures
