use Rattle.std.proofs.Common.{ℕ, ◌/◌, ◌%◌, ap, ◌∙◌}
use Rattle.sets.specs.Member.{bit, in_set}
use Rattle.sets.proofs.Bit.{bit_none}
use Rattle.sets.proofs.Words.{zeros}
use Rattle.sets.proofs.set.Set.new.Goals as goal

pub returns : goal.returns
unfolding in_set
returns g c k = ap (λ (x : ℕ). bit x (k % 64)) (zeros g.row.W (k / 64)) ∙ bit_none (k % 64)
