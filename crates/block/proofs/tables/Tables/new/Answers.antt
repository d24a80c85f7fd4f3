use Rattle.std.proofs.Common.{None, refl}
use Rattle.block.specs.Reading.{no_session}
use Rattle.block.proofs.Empty.{none_at, modes_clear}
use Rattle.block.proofs.tables.Tables.new.Goals as goal

pub returns-clause-cards : goal.returns-clause-cards
returns-clause-cards c =
    λ n. record {
      gate = 0;
      accounts = λ i. none_at 16 None None refl i n;
      roles = λ i. none_at 32 None None refl i n;
      items = λ i. none_at 256 None None refl i n;
      account = λ s. (none_at 64 no_session no_session refl s n).account;
      life = λ s. (none_at 64 no_session no_session refl s n).life;
    }

pub returns-clause-sessions : goal.returns-clause-sessions
returns-clause-sessions c = none_at 64 no_session no_session refl

pub returns-clause-rights : goal.returns-clause-rights
returns-clause-rights c = modes_clear c.new-3.result c.new-3.ensures 4

pub returns-clause-accesses : goal.returns-clause-accesses
returns-clause-accesses c = modes_clear c.new-4.result c.new-4.ensures 4
