use Rattle.std.proofs.Common.{◌∙◌, rules}
use Rattle.block.specs.Reading.{state}
use Rattle.block.proofs.Sessions.{took_is}
use Rattle.block.proofs.records.Records.record_role.Goals as goal

pub returns : goal.returns
returns c =
    c.set_session.ensures ∙ took_is (state c.args.self.now) c.args.s c.args.role _ (search rules) (search rules) (search rules) (search rules)
