use Rattle.sets.proofs.Words.{empty_tells}
use Rattle.sets.proofs.set.Set.is_empty.Goals as goal

pub returns : goal.returns
returns g c = empty_tells c.args.self.now c.meets.result c.meets.ensures
