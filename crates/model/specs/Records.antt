-- What the monitor holds.
use Rattle.std.specs.Prelude.{ℕ, ◌≤◌, Bool, false, ◌&&◌, ◌||◌, T, List, [], ◌∷◌, None, Option, unwrap_or, ◌==◌}
use Rattle.model.specs.declared.fact.Fact.{Fact}
use Rattle.model.specs.declared.fact.Fact.TheVariants.{Lives, Held, Right, Access, Holding, Flow, Control}
use Rattle.model.specs.declared.fact.Mode.{Mode}
use Rattle.model.specs.declared.fact.Mode.TheVariants.{Read, Write, Execute, Own}
use Rattle.model.specs.declared.record.Account.{Account}
use Rattle.model.specs.declared.record.Role.{Role}
use Rattle.model.specs.declared.record.Mark.{Mark}
use Rattle.model.specs.declared.record.Item.{Item}

-- What is written once and never taken back. A number once used is never free again, so what is written of a gone item stays.
pub record Cards : Type 0 where
  pub gate : ℕ
  pub accounts : ℕ → Option Account
  pub roles : ℕ → Option Role
  pub items : ℕ → Option Item
  -- a session's account, and its life record: every role that it ever took
  pub account : ℕ → ℕ
  pub life : ℕ → ℕ

-- ## What is read of a number

-- what is read of one under which nothing is defined
abbrev pub no_account : Account
no_account = record { level = 0; guarded = false; takes = 0; key = 0 }

abbrev pub no_role : Role
no_role = record { level = 0; manages = None; key = 0 }

abbrev pub no_item : Item
no_item = record { level = 0; container = None }

abbrev pub account_of : Cards → ℕ → Account
account_of C a = unwrap_or (C.accounts a) no_account

abbrev pub role_of : Cards → ℕ → Role
role_of C r = unwrap_or (C.roles r) no_role

abbrev pub item_of : Cards → ℕ → Item
item_of C i = unwrap_or (C.items i) no_item

-- ## Marks of containers

abbrev pub plain : Mark
plain = record { checked = false; shared = false }

-- a mark is 1 if it is checked, 2 if it is shared, 3 if it is both, and plain if it is any other number
abbrev pub mark_of : ℕ → Mark
mark_of m = record { checked = m == 1 || m == 3; shared = m == 2 || m == 3 }

-- ## States

-- A session's program and parent are 0 where it has none.
pub record State : Type 0 where
  pub cards : Cards
  pub program : ℕ → ℕ
  pub parent : ℕ → ℕ
  pub stands : Fact → Bool

abbrev pub Stands : State → Fact → Type 0
Stands S f = T (S.stands f)

abbrev pub level : State → ℕ → ℕ
level S i = (item_of S.cards i).level

abbrev pub Session : ℕ → Type 0
Session n = (1 ≤ n) × (n ≤ 63)

abbrev pub Entity : ℕ → Type 0
Entity n = (64 ≤ n) × (n ≤ 255)

-- Container 64 is the root.
abbrev pub root : ℕ
root = 64

-- ## Equal facts

abbrev pub rank : Mode → ℕ
rank Read = 0
rank Write = 1
rank Execute = 2
rank Own = 3

-- a number for the sort of fact, and the numbers that it is about from the last to the first
abbrev pub code : Fact → ℕ × ℕ × ℕ × ℕ
code (Lives i) = (0, 0, 0, i)
code (Held s r) = (1, 0, r, s)
code (Right r i m) = (2, rank m, i, r)
code (Access s i m) = (3, rank m, i, s)
code (Holding c e) = (4, 0, e, c)
code (Flow a b) = (5, 0, b, a)
code (Control s t) = (6, 0, t, s)

abbrev pub same : Fact → Fact → Bool
same f g = (code f).0 == (code g).0 && ((code f).1 == (code g).1 && ((code f).2 == (code g).2 && (code f).3 == (code g).3))

abbrev pub among : Fact → List Fact → Bool
among f [] = false
among f (g ∷ gs) = same f g || among f gs

-- the fact is about item i
abbrev pub about : ℕ → Fact → Bool
about i (Lives j) = j == i
about i (Held s r) = s == i
about i (Right r j m) = j == i
about i (Access s j m) = s == i || j == i
about i (Holding c e) = c == i || e == i
about i (Flow a b) = a == i || b == i
about i (Control s t) = s == i || t == i
