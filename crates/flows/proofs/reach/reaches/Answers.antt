use Rattle.std.proofs.Common.{⊎_elim, arith}
use Rattle.std.proofs.lemmas.Bool.{false≢true}
use Rattle.flows.proofs.Places.{of_holding}
use Rattle.flows.proofs.Ways.{chain_end}
use Rattle.flows.proofs.reach.reaches.Goals as goal

pub returns-then-y-gt255 : goal.returns-then-y-gt255
returns-then-y-gt255 g c = (
  λ e. absurd (false≢true e),
  ⊎_elim (λ s. absurd (omega (arith, s.0.1))) (λ q. absurd (omega (arith, chain_end (λ z y h. (of_holding c.args.records.now z y h).1) q))),
)
