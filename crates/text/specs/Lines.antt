-- The start text: what its lines say, how they are written, and which text the first reading accepts.
-- Assumes nothing.
use Rattle.std.specs.Prelude.{◌≡◌, ℕ, zero, suc, ◌+◌, ◌^◌, ◌<◌, ◌≤◌, Bool, true, false, ◌&&◌, ◌||◌, ◌⊎◌, List, [], ◌∷◌, ◌++◌, map, length, Ok, Err, codes, Result, ◌==◌, ◌≢◌, nat_le, nat_lt}
use Rattle.std.specs.Int.Digits.{digits_of}
use Rattle.text.specs.declared.record.Key.{Key}
use Rattle.text.specs.declared.record.Key.TheVariants as key
use Rattle.text.specs.declared.record.Line.{Line}
use Rattle.text.specs.declared.record.Line.TheVariants.{Root, Gate, Account, Role, Container, Object, Session, Right, Held, Access}
use Rattle.text.specs.declared.record.Fault.{Fault}
use Rattle.text.specs.declared.record.Refusal.{Refusal}
use Rattle.text.specs.declared.record.Fault.TheVariants as fault

-- How a line is written

abbrev pub key_of : Line → Key
key_of (Root level mark) = key.Root
key_of (Gate object) = key.Gate
key_of (Account number level guarded roles k) = key.Account
key_of (Role number level kind manages k) = key.Role
key_of (Container number level mark holder) = key.Container
key_of (Object number level holder) = key.Object
key_of (Session number account level program parent) = key.Session
key_of (Right role item right) = key.Right
key_of (Held session role) = key.Held
key_of (Access session item access) = key.Access

abbrev pub numbers : Line → List ℕ
numbers (Root level mark) = level ∷ mark ∷ []
numbers (Gate object) = object ∷ []
numbers (Account number level guarded roles k) = number ∷ level ∷ guarded ∷ roles ∷ k ∷ []
numbers (Role number level kind manages k) = number ∷ level ∷ kind ∷ manages ∷ k ∷ []
numbers (Container number level mark holder) = number ∷ level ∷ mark ∷ holder ∷ []
numbers (Object number level holder) = number ∷ level ∷ holder ∷ []
numbers (Session number account level program parent) = number ∷ account ∷ level ∷ program ∷ parent ∷ []
numbers (Right role item right) = role ∷ item ∷ right ∷ []
numbers (Held session role) = session ∷ role ∷ []
numbers (Access session item access) = session ∷ item ∷ access ∷ []

abbrev pub key_text : Key → List ℕ
key_text key.Root = codes "root"
key_text key.Gate = codes "gate"
key_text key.Account = codes "account"
key_text key.Role = codes "role"
key_text key.Container = codes "container"
key_text key.Object = codes "object"
key_text key.Session = codes "session"
key_text key.Right = codes "right"
key_text key.Held = codes "held"
key_text key.Access = codes "access"

-- a number in decimal, without leading zeros
unfoldable pub numeral : ℕ → List ℕ
numeral zero = 48 ∷ []
numeral (suc n) = map (λ d. 48 + d) (digits_of 10 (suc n))

-- numbers with a comma between each two
abbrev pub commas : List ℕ → List ℕ
commas [] = []
commas (n ∷ []) = numeral n
commas (n ∷ m ∷ ns) = numeral n ++ 44 ∷ commas (m ∷ ns)

-- a line before its byte 10
abbrev pub body : Line → List ℕ
body l = key_text (key_of l) ++ 61 ∷ commas (numbers l)

abbrev pub line_text : Line → List ℕ
line_text l = body l ++ 10 ∷ []

-- A list of lines has the latest first; this is their text.
abbrev pub text : List Line → List ℕ
text [] = []
text (l ∷ ls) = text ls ++ line_text l

-- The order of lines

abbrev pub rank : Key → ℕ
rank key.Root = 0
rank key.Gate = 1
rank key.Account = 2
rank key.Role = 3
rank key.Container = 4
rank key.Object = 5
rank key.Session = 6
rank key.Right = 7
rank key.Held = 8
rank key.Access = 9

-- by the first number from the left in which they differ
abbrev pub below : List ℕ → List ℕ → Bool
below [] ms = false
below (n ∷ ns) [] = false
below (n ∷ ns) (m ∷ ms) = nat_lt n m || (n == m && below ns ms)

-- a later key, or the same key and greater numbers
abbrev pub before : Line → Line → Bool
before l m = nat_lt (rank (key_of l)) (rank (key_of m)) || (rank (key_of l) == rank (key_of m) && below (numbers l) (numbers m))

-- a line may come after these: first the one root, then the one gate, then each line after the one before it
abbrev pub follows : List Line → Line → Bool
follows [] l = rank (key_of l) == 0
follows (r ∷ []) l = rank (key_of l) == 1
follows (p ∷ q ∷ ls) l = nat_lt 1 (rank (key_of l)) && before p l

-- The ranges of numbers

abbrev pub level_in_range : ℕ → Bool
level_in_range n = nat_lt n 65536

abbrev pub mark_in_range : ℕ → Bool
mark_in_range n = nat_lt n 4

abbrev pub entity_in_range : ℕ → Bool
entity_in_range n = nat_le 64 n && nat_le n 255

abbrev pub session_in_range : ℕ → Bool
session_in_range n = nat_le 1 n && nat_le n 63

abbrev pub item_in_range : ℕ → Bool
item_in_range n = nat_le 1 n && nat_le n 255

abbrev pub is_zero : ℕ → Bool
is_zero n = n == 0

abbrev pub set_in_range : ℕ → Bool
set_in_range n = nat_lt n (2 ^ 32)

abbrev pub access_in_range : ℕ → Bool
access_in_range n = n == 1 || (n == 2 || n == 8)

abbrev pub right_in_range : ℕ → Bool
right_in_range n = n == 4 || access_in_range n

-- on a session only 8 exists
abbrev pub access_fits : ℕ → ℕ → Bool
access_fits item n = nat_le 64 item || n == 8

abbrev pub in_range : Line → Bool
in_range (Root level mark) = level_in_range level && mark_in_range mark
in_range (Gate object) = entity_in_range object
in_range (Account number level guarded roles k) = nat_lt number 16 && (level_in_range level && (nat_lt guarded 2 && (set_in_range roles && (is_zero k || entity_in_range k))))
in_range (Role number level kind manages k) = nat_lt number 32 && (level_in_range level && (nat_lt kind 2 && ((set_in_range manages && (is_zero k || entity_in_range k)) && (kind == 1 || is_zero manages))))
in_range (Container number level mark holder) = entity_in_range number && (level_in_range level && (mark_in_range mark && entity_in_range holder))
in_range (Object number level holder) = entity_in_range number && (level_in_range level && entity_in_range holder)
in_range (Session number account level program parent) = session_in_range number && (nat_lt account 16 && (level_in_range level && ((is_zero program || entity_in_range program) && nat_lt parent 64)))
in_range (Right role item right) = nat_lt role 32 && (item_in_range item && (right_in_range right && access_fits item right))
in_range (Held session role) = session_in_range session && nat_lt role 32
in_range (Access session item access) = session_in_range session && (item_in_range item && (access_in_range access && access_fits item access))

-- The first reading

-- each line may come after those before it, with its numbers in range
abbrev pub Sound : List Line → Type 0
Sound [] = Unit {0}
Sound (l ∷ ls) = (follows ls l ≡ true) × (in_range l ≡ true) × Sound ls

-- the bytes begin with no line
abbrev pub NoLine : List ℕ → Type 0
NoLine left = (l : Line) (more : List ℕ) → left ≢ line_text l ++ more

-- the bytes begin with this line
abbrev pub Begins : List ℕ → Line → Type 0
Begins left l = (more : List ℕ) × (left ≡ line_text l ++ more)

-- What may be wrong with the next line, after the lines ls, where the bytes `left` are left

abbrev pub Malformed : List Line → List ℕ → Type 0
Malformed ls left = (0 < length left) × NoLine left

-- it is missing, or there and not in its place
abbrev pub Misplaced : List Line → List ℕ → Type 0
Misplaced ls left = ((left ≡ []) × (length ls < 2)) ⊎ ((l : Line) × Begins left l × (follows ls l ≡ false))

abbrev pub OutOfRange : List Line → List ℕ → Type 0
OutOfRange ls left = (l : Line) × Begins left l × (follows ls l ≡ true) × (in_range l ≡ false)

-- the lines before line n are sound, and line n has the fault
pub record StopsAt (bytes : List ℕ) (n : ℕ) (faulty : List Line → List ℕ → Type 0) : Type 0 where
  pub size : length bytes ≤ 32768
  pub lines : List Line
  pub left : List ℕ
  pub whole : bytes ≡ text lines ++ left
  pub sound : Sound lines
  pub next : n ≡ length lines + 1
  pub fault : faulty lines left

abbrev pub Refused : List ℕ → Fault → ℕ → Type 0
Refused bytes fault.Size n = (32768 < length bytes) × (n ≡ 0)
Refused bytes fault.Form n = StopsAt bytes n Malformed
Refused bytes fault.Order n = StopsAt bytes n Misplaced
Refused bytes fault.Range n = StopsAt bytes n OutOfRange

-- the text is that of the lines ls
pub record Accepted (bytes : List ℕ) (ls : List Line) : Type 0 where
  pub size : length bytes ≤ 32768
  pub whole : bytes ≡ text ls
  pub sound : Sound ls
  pub both : 2 ≤ length ls

-- the outcome of the first reading: how many lines there are, or a refusal
abbrev pub First : List ℕ → Result ℕ Refusal → Type 0
First bytes (Ok n) = (ls : List Line) × Accepted bytes ls × (n ≡ length ls)
First bytes (Err r) = Refused bytes r.fault r.line

-- a text has one outcome
abbrev pub FirstUnique : Type 0
FirstUnique = (bytes : List ℕ) (r s : Result ℕ Refusal) → First bytes r → First bytes s → r ≡ s
