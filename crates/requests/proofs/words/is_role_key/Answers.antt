use Rattle.std.proofs.Common.{rules, refl}
use borrow.Author.Tests.{tests}
use Rattle.block.specs.Reading.{state}
use Rattle.requests.specs.Words.{is_key_of_role}
use Rattle.sets.proofs.Below.{any_below}
use Rattle.requests.proofs.words.is_role_key.Goals as goal

pub returns : goal.returns
returns c =
    let told = any_below 32 (is_key_of_role (state c.args.records.now) c.args.y) _ _ _ c.any.ensures.ran refl (λ x b q k. search (rules, tests)) in
    search rules
