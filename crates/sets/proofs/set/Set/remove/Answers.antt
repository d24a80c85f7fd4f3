use Rattle.std.proofs.Common.{◌/◌, ◌%◌, ◌^◌, ◌<◌, not, ◌&&◌, length, refl, arith}
use Rattle.sets.proofs.Bit.{without}
use Rattle.sets.proofs.Words.{word, changed_at}
use Rattle.sets.proofs.set.Set.remove.Goals as goal

pub returns : goal.returns
returns g c =
    let h : c.args.i / 64 < length c.args.self.now.words = omega arith in
    let l : word c.args.self.now (c.args.i / 64) < 2 ^ 64 = omega arith in
    changed_at (λ e x. not e && x) (λ x. refl) c.args.self.now c.args.i _ h
    (λ k. without (word c.args.self.now (c.args.i / 64)) (c.args.i % 64) k l (omega arith))
