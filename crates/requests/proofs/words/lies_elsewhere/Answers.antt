use Rattle.std.proofs.Common.{rules, refl}
use borrow.Author.Tests.{tests}
use Rattle.block.specs.Reading.{state}
use Rattle.requests.specs.Words.{holds_too}
use Rattle.sets.proofs.Below.{any_below}
use Rattle.requests.proofs.words.lies_elsewhere.Goals as goal

pub returns : goal.returns
returns c =
    let told = any_below 256 (holds_too (state c.args.records.now) c.args.z c.args.y) _ _ _ c.any.ensures.ran refl (λ x b q k. search (rules, tests)) in
    search rules
