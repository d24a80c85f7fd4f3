use Rattle.start.proofs.define.add_root.Goals as goal

pub returns : goal.returns
returns c = cc
