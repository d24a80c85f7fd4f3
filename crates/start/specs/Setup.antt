-- The state that the lines of a start text list, before flows and control follow from it.
use Rattle.std.specs.Prelude.{Bool, false, cond, List, [], ◌∷◌, Some, None, is_some, ◌==◌}
use Rattle.std.specs.Bool.{then_some}
use Rattle.text.specs.declared.record.Line.{Line}
use Rattle.text.specs.declared.record.Line.TheVariants as line
use Rattle.model.specs.declared.fact.Fact.TheVariants.{Lives, Held, Right, Access, Holding}
use Rattle.model.specs.Records.{State, mark_of, root}
use Rattle.model.specs.Form.{mode_of}
use Rattle.model.specs.Effects.{item, live_item, took}
use Rattle.block.specs.Writing.{adding, writing, gate_is, account_is, role_is, session_is, empty}

-- the line defines a number that is defined already
abbrev pub again : Line → State → Bool
again (line.Root level mark) S = false
again (line.Gate object) S = false
again (line.Account number level guarded roles key) S = is_some (S.cards.accounts number)
again (line.Role number level kind manages key) S = is_some (S.cards.roles number)
again (line.Container number level mark holder) S = is_some (S.cards.items number)
again (line.Object number level holder) S = is_some (S.cards.items number)
again (line.Session number account level program parent) S = is_some (S.cards.items number)
again (line.Right role item right) S = false
again (line.Held session role) S = false
again (line.Access session item access) S = false

-- what a line adds
abbrev pub plus : Line → State → State
plus (line.Root level mark) S = adding (Lives root) (writing (item root (live_item (Some (mark_of mark)) level)) S)
plus (line.Gate object) S = writing (gate_is object) S
plus (line.Account number level guarded takes key) S =
    writing (account_is number (record { level = level; guarded = (guarded == 1); takes = takes; key = key })) S
plus (line.Role number level kind manages key) S =
    writing (role_is number (record { level = level; manages = then_some (kind == 1) manages; key = key })) S
plus (line.Container number level mark holder) S =
    adding (Holding holder number) (adding (Lives number) (writing (item number (live_item (Some (mark_of mark)) level)) S))
plus (line.Object number level holder) S =
    adding (Holding holder number) (adding (Lives number) (writing (item number (live_item None level)) S))
plus (line.Session number account level program parent) S =
    adding (Lives number) (session_is number (record { account = account; life = 0; program = program; parent = parent }) (writing (item number (live_item None level)) S))
plus (line.Right role on right) S = adding (Right role on (mode_of right)) S
plus (line.Held session role) S = adding (Held session role) (writing (took session role) S)
plus (line.Access session on access) S = adding (Access session on (mode_of access)) S

-- the first line that defines a number counts
abbrev pub with : Line → State → State
with l S = cond (again l S) S (plus l S)

-- what lines list, the latest first
abbrev pub listed : List Line → State
listed [] = empty
listed (l ∷ ls) = with l (listed ls)
