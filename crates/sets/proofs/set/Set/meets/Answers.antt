use Rattle.std.proofs.Common.{rules, tests}
use Rattle.std.proofs.lemmas.Iterator.{YieldsList-from_slice, YieldsList-from_zip, cases_from_any}
use Rattle.sets.proofs.Words.{Share, Apart, meets_tells}
use Rattle.sets.proofs.set.Set.meets.Goals as goal

pub returns : goal.returns
returns g c =
    meets_tells c.args.self.now c.args.other.now (search rules) (search rules) c.any.result
    (cases_from_any c.any.new.self _ c.any.result Share Apart c.any.ensures.ran
    (YieldsList-from_zip (YieldsList-from_slice c.args.self.now.words cc) (YieldsList-from_slice c.args.other.now.words cc))
    (λ x q k. search (rules, tests)) (λ x q k. search (rules, tests)))
