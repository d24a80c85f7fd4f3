use Rattle.std.proofs.Common.{ℕ, ◌^◌, Bool, ◌||◌, ap, ◌∙◌}
use Rattle.sets.specs.Member.{bit}
use Rattle.sets.proofs.Bit.{bit_of_or, bit_one}
use Rattle.policy.proofs.rule.taken.Goals as goal

pub returns-then-role-lt32 : goal.returns-then-role-lt32
returns-then-role-lt32 c k h =
    ap (λ (x : ℕ). bit x k) c.with_role.ensures ∙ bit_of_or c.args.life (2 ^ c.args.role) k
    ∙ ap (λ (x : Bool). bit c.args.life k || x) (bit_one c.args.role k)
