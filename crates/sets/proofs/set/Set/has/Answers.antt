use Rattle.std.proofs.Common.{ℕ, ◌/◌, ◌%◌, ◌^◌, eqb, ap}
use Rattle.std.proofs.lemmas.Nat.{and_mask}
use Rattle.sets.specs.Member.{in_set, bit}
use Rattle.sets.proofs.Words.{word}
use Rattle.sets.proofs.set.Set.has.Goals as goal

pub returns : goal.returns
unfolding in_set bit
returns g c = ap (λ (x : ℕ). eqb x 1) (and_mask (word c.args.self.now (c.args.i / 64) / 2 ^ (c.args.i % 64)) 1)
