use Rattle.start.proofs.define.add_session.Goals as goal

pub returns : goal.returns
returns c = cc
