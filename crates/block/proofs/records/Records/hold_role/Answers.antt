use Rattle.block.proofs.records.Records.hold_role.Goals as goal

pub returns : goal.returns
returns c = cc
