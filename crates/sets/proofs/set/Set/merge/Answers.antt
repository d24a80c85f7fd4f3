use Rattle.std.proofs.Common.{◌≡◌, ℕ, ◌<◌, ◌^◌, subst, arith, rules}
use lib.Bits.{bit_or}
use Rattle.sets.specs.declared.set.Set.{Set}
use Rattle.sets.proofs.Bit.{bit_of_or, or_tells}
use Rattle.sets.proofs.Words.{Merged, word, merged_more, merged_all}
use Rattle.sets.proofs.set.Set.merge.Goals as goal

pub loop-j-preserved : goal.loop-j-preserved
loop-j-preserved g c =
    let new : Set g.row.W = record { words = c.loop-j.word-items } in
    let a = word new c.loop-j.j in
    let b = word c.args.other.now c.loop-j.j in
    let ha : a < 2 ^ 64 = omega arith in
    let hb : b < 2 ^ 64 = omega arith in
    merged_more c.loop-j.j c.args.self.now c.args.other.now new c.loop-j.grew c.loop-j.invariant (omega arith)
    (bit_or a b) _ (bit_of_or a b) (or_tells 64 a b ha hb)

pub returns-clause-members : goal.returns-clause-members
returns-clause-members g c =
    let new : Set g.row.W = record { words = c.loop-j.word-items } in
    let e : c.loop-j.j ≡ g.row.W = omega arith in
    merged_all c.args.self.now c.args.other.now new c.loop-j.grew (search rules)
    (subst (λ (n : ℕ). Merged n c.args.self.now c.args.other.now new c.loop-j.grew) e c.loop-j.invariant)
