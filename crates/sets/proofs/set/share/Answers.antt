use Rattle.std.proofs.Common.{◌^◌, ◌<◌, arith}
use Rattle.sets.proofs.Bit.{and_tells}
use Rattle.sets.proofs.set.share.Goals as goal

pub returns : goal.returns
returns c =
    let a : c.args.a < 2 ^ 64 = omega arith in
    let b : c.args.b < 2 ^ 64 = omega arith in
    and_tells 64 c.args.a c.args.b a b
