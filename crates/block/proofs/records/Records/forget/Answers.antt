use Rattle.std.proofs.Common.{ap, ◌∙◌}
use Rattle.block.specs.Writing.{untying}
use Rattle.block.proofs.records.Records.forget.Goals as goal

pub returns : goal.returns
returns c = c.forget_ties.ensures ∙ ap (untying c.args.i) c.forget_facts.ensures
