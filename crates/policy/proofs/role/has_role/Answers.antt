use Rattle.std.proofs.Common.{ℕ, ◌/◌, ◌^◌, eqb, sym, ap, ◌∙◌}
use Rattle.std.proofs.lemmas.Nat.{and_mask}
use Rattle.std.proofs.lemmas.Bool.{le-ltb}
use Rattle.sets.specs.Member.{bit}
use Rattle.sets.proofs.Bit.{bit_above}
use Rattle.policy.proofs.role.has_role.Goals as goal

pub returns-then-role-lt32 : goal.returns-then-role-lt32
unfolding bit
returns-then-role-lt32 c = ap (λ (x : ℕ). eqb x 1) (and_mask (c.args.set / 2 ^ c.args.role) 1)

pub returns-else-role-lt32 : goal.returns-else-role-lt32
returns-else-role-lt32 c =
    le-ltb _ _ c.if-role-lt32.false ∙ sym (bit_above 32 c.args.set c.args.role c.ranges.set.fits c.if-role-lt32.false)
