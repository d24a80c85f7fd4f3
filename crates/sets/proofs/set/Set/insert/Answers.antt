use Rattle.std.proofs.Common.{◌/◌, ◌%◌, ◌<◌, ◌||◌, length, sym, arith}
use Rattle.sets.specs.Member.{in_set}
use Rattle.sets.proofs.Bit.{with_one, or_had}
use Rattle.sets.proofs.Words.{word, changed_at, or_false}
use Rattle.sets.proofs.set.Set.insert.Goals as goal

pub returns-clause-members : goal.returns-clause-members
returns-clause-members g c =
    let h : c.args.i / 64 < length c.args.self.now.words = omega arith in
    changed_at (λ e x. x || e) or_false c.args.self.now c.args.i _ h
    (λ k. with_one (word c.args.self.now (c.args.i / 64)) (c.args.i % 64) k (omega arith))

pub returns-then-has-clause-members : goal.returns-then-has-clause-members
returns-then-has-clause-members g c k = or_had (in_set c.args.self.now) c.args.i k (sym c.if-has.ensures)
