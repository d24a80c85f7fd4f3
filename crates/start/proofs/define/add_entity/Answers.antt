use Rattle.start.proofs.define.add_entity.Goals as goal

pub returns : goal.returns
returns c = cc
