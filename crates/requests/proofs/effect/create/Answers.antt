use Rattle.requests.proofs.effect.create.Goals as goal

pub returns : goal.returns
returns c = cc
