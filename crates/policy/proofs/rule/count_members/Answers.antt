use Rattle.std.proofs.Common.{◌^◌, ◌<◌, Bool, ◌&&◌, ◌||◌, eqb, ap, ◌∙◌, arith}
use lib.Bits.{bit_and, and_le_l}
use Rattle.sets.specs.Member.{bit}
use Rattle.sets.proofs.Bit.{bit_of_and}
use Rattle.policy.proofs.Count.{count_same, ones_count}
use Rattle.policy.proofs.rule.count_members.Goals as goal

pub returns : goal.returns
returns c =
    let g = c.args.group in
    let t = c.taken.result in
    let h : bit_and g t < 2 ^ 32 = omega (arith, and_le_l g t) in
    ones_count 32 (bit_and g t) h
    ∙ count_same (bit (bit_and g t)) (λ r. bit g r && (bit c.args.life r || eqb r c.args.role)) 32
    (λ k l. bit_of_and g t k ∙ ap (λ (x : Bool). bit g k && x) (c.taken.ensures k l))
