use Rattle.std.proofs.Common.{rules, refl}
use borrow.Author.Tests.{tests}
use Rattle.block.specs.Reading.{state}
use Rattle.requests.specs.Words.{is_key_of_account}
use Rattle.sets.proofs.Below.{any_below}
use Rattle.requests.proofs.words.is_account_key.Goals as goal

pub returns : goal.returns
returns c =
    let told = any_below 16 (is_key_of_account (state c.args.records.now) c.args.y) _ _ _ c.any.ensures.ran refl (λ x b q k. search (rules, tests)) in
    search rules
