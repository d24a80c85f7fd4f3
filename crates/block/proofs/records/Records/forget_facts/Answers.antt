use Rattle.std.proofs.Common.{ap, ◌∙◌}
use Rattle.block.specs.Reading.{state}
use Rattle.block.specs.Writing.{dropping, of_session}
use Rattle.block.proofs.Gone.{session_gone, entity_gone}
use Rattle.block.proofs.records.Records.forget_facts.Goals as goal

pub returns-then-i-lt64 : goal.returns-then-i-lt64
returns-then-i-lt64 c =
    c.forget_session.ensures ∙ ap (dropping (of_session c.args.i)) c.forget_item.ensures ∙ session_gone (state c.args.self.now) c.args.i

pub returns-else-i-lt64 : goal.returns-else-i-lt64
returns-else-i-lt64 c = c.forget_item.ensures ∙ entity_gone c.args.self.now c.args.i c.if-i-lt64.false
