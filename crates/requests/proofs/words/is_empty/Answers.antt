use Rattle.std.proofs.Common.{rules, refl}
use borrow.Author.Tests.{tests}
use Rattle.block.specs.Reading.{state}
use Rattle.model.specs.declared.fact.Fact.TheVariants.{Holding}
use Rattle.sets.proofs.Below.{any_below}
use Rattle.requests.proofs.words.is_empty.Goals as goal

pub returns : goal.returns
returns c =
    let told = any_below 256 (λ e. (state c.args.records.now).stands (Holding c.args.y e)) _ _ _ c.any.ensures.ran refl (λ x b q k. search (rules, tests)) in
    search rules
