use Rattle.std.proofs.Common.{rules}
use Rattle.sets.proofs.Rows.{row_past}
use Rattle.sets.proofs.relation.Relation.clear_column.Goals as goal

pub returns : goal.returns
returns g c = search (rules, row_past)
