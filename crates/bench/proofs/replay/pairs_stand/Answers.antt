use Rattle.std.proofs.Common.{ℕ, T, rules, refl}
use Rattle.std.proofs.lemmas.Iterator.{YieldsList-from_range, cases_from_all}
use borrow.Author.Tests.{tests}
use Rattle.block.specs.Reading.{state}
use Rattle.sets.proofs.Below.{all_below}
use Rattle.bench.specs.Standing.{pair_too}
use Rattle.bench.proofs.Standing.{on_true}
use Rattle.bench.proofs.replay.pairs_stand.Goals as goal

pub returns : goal.returns
returns c =
    let Yes = λ (j : ℕ). T (pair_too (state c.args.a.now) (state c.args.b.now) c.args.i j) in
    let No = λ (j : ℕ). Unit {0} in
    on_true _ _ c.all.result (all_below 256 Yes No _ (cases_from_all _ _ _ Yes No c.all.ensures.ran (YieldsList-from_range 0 256 256 refl refl) (λ x q k. search (rules, tests)) (λ x q k. tt)))
