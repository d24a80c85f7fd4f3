use Rattle.std.proofs.Common.{ℕ, rules, true, false, T, refl}
use Rattle.std.proofs.lemmas.Iterator.{YieldsList-from_range, cases_from_all}
use borrow.Author.Tests.{tests}
use Rattle.sets.specs.Member.{bit}
use Rattle.sets.proofs.Below.{all_below}
use Rattle.start.proofs.words.each_role.Goals as goal

pub returns : goal.returns
returns g c =
    let Yes = λ (r : ℕ). T (bit c.args.set r) → goal.F-post g c.args.test r true in
    let No = λ (r : ℕ). T (bit c.args.set r) × goal.F-post g c.args.test r false in
    all_below 32 Yes No _ (cases_from_all _ _ _ Yes No c.all.ensures.ran (YieldsList-from_range 0 32 32 refl refl) (λ x q k. search (rules, tests)) (λ x q k. search (rules, tests)))
