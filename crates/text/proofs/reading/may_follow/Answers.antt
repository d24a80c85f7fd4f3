use Rattle.std.proofs.Common.{◌≡◌, true, nat_lt, length, ◌∙◌, arith, rules}
use Rattle.std.proofs.lemmas.Bool.Decides.{nat_tests}
use Rattle.text.specs.declared.record.Key.TheVariants as key
use Rattle.text.specs.Lines.{rank}
use Rattle.text.specs.Post.{entry_before}
use Rattle.text.proofs.Orders.{entry_lt, key_gt}
use Rattle.text.proofs.reading.may_follow.Goals as goal

pub returns-then-gt : goal.returns-then-gt
returns-then-gt c =
    let long : length c.args.last.now.numbers ≡ length c.args.e.now.numbers = search rules in
    let before : c.lt.result ≡ entry_before c.args.last.now c.args.e.now = c.lt.ensures ∙ entry_lt _ _ long in
    let behind : true ≡ nat_lt 1 (rank c.args.e.now.key) = c.if-gt.ensures ∙ key_gt c.args.e.now.key key.Gate in
    let d = c.in_default in grind (arith, nat_tests)
