use Rattle.block.proofs.Told.{told_lent}
use Rattle.block.proofs.telling.block_state_tells_all.Goals as goal

pub returns-in-Some-Some : goal.returns-in-Some-Some
returns-in-Some-Some c _ =
    told_lent c.args.a.now c.args.b.now c.in-Some-Some.x c.in-Some-Some.y c.in-Some-Some.is-0 c.in-Some-Some.is-1 c.state_tells_all.ensures
