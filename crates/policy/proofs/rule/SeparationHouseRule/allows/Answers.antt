use Rattle.std.proofs.Common.{not, ap, rules, tests}
use Rattle.std.proofs.lemmas.Iterator.{YieldsList-from_slice}
use Rattle.std.proofs.lemmas.Iterator.Search.{any_from_yields_List}
use Rattle.policy.specs.Rule.{parts}
use Rattle.policy.proofs.rule.SeparationHouseRule.allows.Goals as goal

pub returns : goal.returns
returns c =
    ap not (any_from_yields_List (parts c.args.life c.args.role) _ _ _ c.any.ensures.ran (YieldsList-from_slice c.args.self.now.pairs.now cc) (λ x b q k. search (rules, tests)))
