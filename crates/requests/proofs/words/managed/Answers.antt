use Rattle.std.proofs.Common.{rules, refl}
use borrow.Author.Tests.{tests}
use Rattle.block.specs.Reading.{state}
use Rattle.requests.specs.Words.{manages}
use Rattle.sets.proofs.Below.{any_below}
use Rattle.requests.proofs.words.managed.Goals as goal

pub returns : goal.returns
returns c =
    let told = any_below 32 (manages (state c.args.records.now) c.args.x c.args.role) _ _ _ c.any.ensures.ran refl (λ x b q k. search (rules, tests)) in
    search rules
