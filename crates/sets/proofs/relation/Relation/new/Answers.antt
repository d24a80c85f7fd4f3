use Rattle.sets.proofs.Rows.{rows_clear}
use Rattle.sets.proofs.relation.Relation.new.Goals as goal

pub returns : goal.returns
returns g c = rows_clear c.new.result c.new.ensures g.row.N
