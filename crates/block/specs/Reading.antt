-- What the tables say. Past the end of a table nothing is said.
use Rattle.std.specs.Prelude.{ℕ, ◌<◌, Bool, cond, ◌&&◌, List, None, nat_lt, slice_index_or}
use Rattle.sets.specs.Member.{in_set, relates, empty_relation}
use Rattle.sets.specs.declared.relation.Relation.{Relation}
use Rattle.model.specs.declared.fact.Fact.{Fact}
use Rattle.model.specs.declared.fact.Fact.TheVariants.{Lives, Held, Right, Access, Holding, Flow, Control}
use Rattle.model.specs.declared.fact.Mode.{Mode}
use Rattle.model.specs.Records.{Cards, State, rank}
use Rattle.block.specs.declared.tables.Session.{Session}
use Rattle.block.specs.declared.tables.Tables.{Tables}
use Rattle.block.specs.declared.relations.Relations.{Relations}
use Rattle.block.specs.declared.records.Records.{Records}

abbrev pub no_session : Session
no_session = record { account = 0; life = 0; program = 0; parent = 0 }

-- the table of a mode, row i, has the number k
abbrev pub grid : List (Relation 256 1) → Mode → ℕ → ℕ → Bool
grid tables m i k = relates (slice_index_or tables (rank m) empty_relation) i k

-- whether a fact stands
abbrev pub standing : Tables → Relations → Fact → Bool
standing t r (Lives i) = nat_lt i 256 && in_set t.live i
standing t r (Held s role) = nat_lt s 64 && (nat_lt role 64 && relates t.held s role)
standing t r (Right role i m) = nat_lt role 64 && (nat_lt i 256 && grid t.rights m i role)
standing t r (Access s i m) = nat_lt s 64 && (nat_lt i 256 && grid t.accesses m i s)
standing t r (Holding c e) = nat_lt c 256 && (nat_lt e 256 && relates t.contents c e)
standing t r (Flow a b) = nat_lt a 256 && (nat_lt b 256 && relates r.flows a b)
standing t r (Control s u) = nat_lt s 64 && (nat_lt u 64 && relates r.control s u)

-- record i of a table of n
abbrev pub at : {X : Type 0} → ℕ → List X → X → ℕ → X
at n xs none i = cond (nat_lt i n) (slice_index_or xs i none) none

abbrev pub session_of : Tables → ℕ → Session
session_of t s = at 64 t.sessions no_session s

abbrev pub cards_of : Tables → Cards
cards_of t =
    record { gate = t.gate; accounts = at 16 t.accounts None; roles = at 32 t.roles None; items = at 256 t.items None; account = λ s. (session_of t s).account; life = λ s. (session_of t s).life }

-- the state that tables and relations hold, and the one that records hold
abbrev pub state_of : Tables → Relations → State
state_of t r =
    record { cards = cards_of t; program = λ s. (session_of t s).program; parent = λ s. (session_of t s).parent; stands = standing t r }

abbrev pub state : Records → State
state b = state_of b.tables b.relations

-- the tables have a place for the fact
abbrev pub Placed : Fact → Type 0
Placed (Lives i) = i < 256
Placed (Held s role) = (s < 64) × (role < 64)
Placed (Right role i m) = (role < 64) × (i < 256)
Placed (Access s i m) = (s < 64) × (i < 256)
Placed (Holding c e) = (c < 256) × (e < 256)
Placed (Flow a b) = (a < 256) × (b < 256)
Placed (Control s u) = (s < 64) × (u < 64)
