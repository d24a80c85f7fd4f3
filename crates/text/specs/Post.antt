-- What the functions of the first reading find. Assumes nothing.
use Rattle.std.specs.Prelude.{◌≡◌, ℕ, ◌^◌, min, Bool, true, false, if◌then◌else◌, ◌&&◌, ◌||◌, List, ◌++◌, length, ◌==◌, ◌≢◌, nat_lt, slice_index}
use Rattle.text.specs.declared.record.Key.{Key}
use Rattle.text.specs.declared.record.Key.TheVariants as key
use Rattle.text.specs.declared.record.Line.{Line}
use Rattle.text.specs.declared.record.Line.TheVariants.{Root, Gate, Account, Role, Container, Object, Session, Right, Held, Access}
use Rattle.text.specs.declared.record.Entry.{Entry}
use Rattle.text.specs.declared.record.Fault.{Fault}
use Rattle.text.specs.declared.record.Fault.TheVariants as fault
use Rattle.text.specs.Lines.{NoLine, numeral, commas, body, line_text, key_of, numbers, rank, below, level_in_range, mark_in_range, entity_in_range, session_in_range, item_in_range, is_zero, set_in_range, access_in_range, right_in_range, access_fits}

-- a 0 stands before other bytes
abbrev pub leading_zero : List ℕ → Bool
leading_zero bytes = nat_lt 1 (length bytes) && slice_index bytes 0 == 48

-- how a number is held that may be of any size
abbrev pub capped : ℕ → ℕ
capped n = min n (2 ^ 32)

-- n is a number that the bytes write, held as v
pub record Writes (bytes : List ℕ) (v : ℕ) : Type 0 where
  pub value : ℕ
  pub text : bytes ≡ numeral value
  pub held : v ≡ capped value

-- vs holds ns, and 0 behind them
abbrev pub Holds : List ℕ → List ℕ → Type 0
Holds vs ns = (j : ℕ) → slice_index vs j ≡ capped (slice_index ns j)

-- how many numbers a line of the key has
abbrev pub arity : Key → ℕ
arity key.Root = 2
arity key.Gate = 1
arity key.Account = 5
arity key.Role = 5
arity key.Container = 4
arity key.Object = 3
arity key.Session = 5
arity key.Right = 3
arity key.Held = 2
arity key.Access = 3

-- the bytes are not n numbers
abbrev pub NoRow : List ℕ → ℕ → Type 0
NoRow bytes n = (ns : List ℕ) → length ns ≡ n → bytes ≢ commas ns

-- the bytes are n numbers, held as vs in so many places
pub record Row (bytes : List ℕ) (n size : ℕ) (vs : List ℕ) : Type 0 where
  pub values : List ℕ
  pub long : length values ≡ n
  pub text : bytes ≡ commas values
  pub places : length vs ≡ size
  pub held : Holds vs values

-- e holds the line l
pub record Keeps (e : Entry) (l : Line) : Type 0 where
  pub key : e.key ≡ key_of l
  pub places : length e.numbers ≡ 5
  pub held : Holds e.numbers (numbers l)

-- the bytes are a line, held as e
pub record Says (bytes : List ℕ) (e : Entry) : Type 0 where
  pub line : Line
  pub text : bytes ≡ body line
  pub kept : Keeps e line

-- the bytes are a line, held as e, and then those after it
pub record Reads (bytes : List ℕ) (e : Entry) (after : List ℕ) : Type 0 where
  pub line : Line
  pub text : bytes ≡ line_text line ++ after
  pub kept : Keeps e line

-- Tests of lines as they are held

abbrev pub entry_before : Entry → Entry → Bool
entry_before p e = nat_lt (rank p.key) (rank e.key) || (rank p.key == rank e.key && below p.numbers e.numbers)

-- after n lines, of which p is the last
abbrev pub entry_follows : ℕ → Entry → Entry → Bool
entry_follows n p e = if nat_lt n 2 then rank e.key == n else (nat_lt 1 (rank e.key) && entry_before p e)

abbrev pub range_at : Key → ℕ → ℕ → ℕ → ℕ → ℕ → Bool
range_at key.Root a b c d e = level_in_range a && mark_in_range b
range_at key.Gate a b c d e = entity_in_range a
range_at key.Account a b c d e = nat_lt a 16 && (level_in_range b && (nat_lt c 2 && (set_in_range d && (is_zero e || entity_in_range e))))
range_at key.Role a b c d e = nat_lt a 32 && (level_in_range b && (nat_lt c 2 && ((set_in_range d && (is_zero e || entity_in_range e)) && (c == 1 || is_zero d))))
range_at key.Container a b c d e = entity_in_range a && (level_in_range b && (mark_in_range c && entity_in_range d))
range_at key.Object a b c d e = entity_in_range a && (level_in_range b && entity_in_range c)
range_at key.Session a b c d e = session_in_range a && (nat_lt b 16 && (level_in_range c && ((is_zero d || entity_in_range d) && nat_lt e 64)))
range_at key.Right a b c d e = nat_lt a 32 && (item_in_range b && (right_in_range c && access_fits b c))
range_at key.Held a b c d e = session_in_range a && nat_lt b 32
range_at key.Access a b c d e = session_in_range a && (item_in_range b && (access_in_range c && access_fits b c))

abbrev pub entry_in_range : Entry → Bool
entry_in_range e = range_at e.key (slice_index e.numbers 0) (slice_index e.numbers 1) (slice_index e.numbers 2) (slice_index e.numbers 3) (slice_index e.numbers 4)

-- e is the next line after n lines, of which `last` is the last: it may come there, and is in range
pub record Next (n : ℕ) (last : Entry) (left : List ℕ) (e : Entry) (after : List ℕ) : Type 0 where
  pub reads : Reads left e after
  pub placed : entry_follows n last e ≡ true
  pub ranged : entry_in_range e ≡ true

-- what is wrong with the next line there
abbrev pub Wrong : Fault → ℕ → Entry → List ℕ → Type 0
Wrong fault.Size n last left = ⊥
Wrong fault.Form n last left = NoLine left
Wrong fault.Order n last left = (e : Entry) × (after : List ℕ) × Reads left e after × (entry_follows n last e ≡ false)
Wrong fault.Range n last left = (e : Entry) × (after : List ℕ) × Reads left e after × (entry_follows n last e ≡ true) × (entry_in_range e ≡ false)

-- the line of a key and its numbers
abbrev pub line_of : Key → List ℕ → Line
line_of key.Root n = Root (slice_index n 0) (slice_index n 1)
line_of key.Gate n = Gate (slice_index n 0)
line_of key.Account n = Account (slice_index n 0) (slice_index n 1) (slice_index n 2) (slice_index n 3) (slice_index n 4)
line_of key.Role n = Role (slice_index n 0) (slice_index n 1) (slice_index n 2) (slice_index n 3) (slice_index n 4)
line_of key.Container n = Container (slice_index n 0) (slice_index n 1) (slice_index n 2) (slice_index n 3)
line_of key.Object n = Object (slice_index n 0) (slice_index n 1) (slice_index n 2)
line_of key.Session n = Session (slice_index n 0) (slice_index n 1) (slice_index n 2) (slice_index n 3) (slice_index n 4)
line_of key.Right n = Right (slice_index n 0) (slice_index n 1) (slice_index n 2)
line_of key.Held n = Held (slice_index n 0) (slice_index n 1)
line_of key.Access n = Access (slice_index n 0) (slice_index n 1) (slice_index n 2)
