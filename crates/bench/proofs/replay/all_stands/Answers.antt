use Rattle.std.proofs.Common.{ℕ, rules, refl}
use Rattle.std.proofs.lemmas.Iterator.{YieldsList-from_range, cases_from_all}
use borrow.Author.Tests.{tests}
use Rattle.block.specs.Reading.{state}
use Rattle.sets.proofs.Below.{all_below}
use Rattle.bench.specs.Standing.{RowToo}
use Rattle.bench.proofs.Standing.{on_true, stands_within}
use Rattle.bench.proofs.replay.all_stands.Goals as goal

pub returns : goal.returns
returns c = λ t.
    let Yes = RowToo (state c.args.a.now) (state c.args.b.now) in
    let No = λ (i : ℕ). Unit {0} in
    stands_within c.args.a.now c.args.b.now
    (on_true _ _ c.all.result (all_below 256 Yes No _ (cases_from_all _ _ _ Yes No c.all.ensures.ran (YieldsList-from_range 0 256 256 refl refl) (λ x q k. search (rules, tests)) (λ x q k. tt))) t)
