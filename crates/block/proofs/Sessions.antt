-- What is written down of sessions.
use Rattle.std.proofs.Common.{◌≡◌, ℕ, ◌^◌, arith}
use lib.Bits.{bit_or}
use Rattle.std.proofs.lemmas.Bool.Decides.{nat_tests}
use Rattle.model.specs.Records.{State}
use Rattle.model.specs.Effects.{took}
use Rattle.block.specs.declared.tables.Session.{Session}
use Rattle.block.specs.Writing.{writing, session_is}

-- a session that is the old one, but for one more role in its life record
pub took_is : (S : State) (s role : ℕ) (x : Session) → x.account ≡ S.cards.account s → x.life ≡ bit_or (S.cards.life s) (2 ^ role)
    → x.program ≡ S.program s → x.parent ≡ S.parent s → session_is s x S ≡ writing (took s role) S
took_is S s role x account life program parent = grind (arith, nat_tests)
