use Rattle.block.specs.Reading.{state}
use Rattle.bench.proofs.Standing.{row}
use Rattle.bench.proofs.replay.row_stands.Goals as goal

pub returns-then-item_stands : goal.returns-then-item_stands
returns-then-item_stands c = row (state c.args.a.now) (state c.args.b.now) c.args.i c.pairs_stand.result c.if-item_stands.ensures c.pairs_stand.ensures
