use Rattle.std.proofs.Common.{rules}
use Rattle.block.proofs.Past.{past_modes}
use Rattle.block.proofs.forgetting.clear_columns.Goals as goal

pub returns : goal.returns
returns c = search (rules, past_modes)
