-- What a house rule means: its answer to an account, a life record and a role.
use Rattle.std.specs.Prelude.{ℕ, zero, suc, ◌+◌, Bool, if◌then◌else◌, not, ◌&&◌, ◌||◌, List, length, ◌==◌, nat_le, nat_lt}
use Rattle.std.specs.List.{list_all, list_any}
use Rattle.sets.specs.Member.{bit}
use Rattle.policy.specs.declared.pair.Pair.{Pair}

-- A life record, as every set of roles, is the sum of 2 ^ r over its roles r.
abbrev pub Rule : Type 0
Rule = ℕ → ℕ → ℕ → Bool

-- the life record has one role of the pair, and the asked role is the other
abbrev pub parts : ℕ → ℕ → Pair → Bool
parts life role p = (bit life p.first && role == p.second) || (bit life p.second && role == p.first)

-- some pair is parted
abbrev pub parted : ℕ → ℕ → List Pair → Bool
parted life role = list_any (parts life role)

-- a pair of two roles; roles run from 0 to 31
abbrev pub proper : Pair → Bool
proper p = nat_lt p.first 32 && (nat_lt p.second 32 && not (p.first == p.second))

abbrev pub each_proper : List Pair → Bool
each_proper = list_all proper

-- what a separation may be made of: at most eight pairs, each of two roles
abbrev pub admissible : List Pair → Bool
admissible pairs = nat_le (length pairs) 8 && each_proper pairs

-- how many of the numbers below n pass a test
unfoldable pub count : (ℕ → Bool) → ℕ → ℕ
count f zero = 0
count f (suc n) = (if f n then 1 else 0) + count f n

-- how many roles of the group are in the life record with the asked role added
abbrev pub members : ℕ → ℕ → ℕ → ℕ
members group life role = count (λ r. bit group r && (bit life r || r == role)) 32

-- Separation says no exactly if some pair is parted.
abbrev pub separation : List Pair → Rule
separation pairs account life role = not (parted life role pairs)

-- A quota says yes exactly if at most n roles of the group were ever taken, the asked one included.
abbrev pub quota : ℕ → ℕ → Rule
quota group n account life role = nat_le (members group life role) n
