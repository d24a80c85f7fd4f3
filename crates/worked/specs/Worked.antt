-- One pedal, worked: its start text, and requests with the answers that the rules give them.
use Rattle.std.specs.Prelude.{◌≡◌, ℕ, Bool, false, ◌&&◌, ◌||◌, T, ◌≢◌, ◌↔◌, List, [], ◌∷◌, ◌++◌, map, codes, ◌==◌}
use Prim.Native.String.{String}
use Rattle.std.specs.List.{AllByRecursion}
use Rattle.policy.specs.Order.{ladder, badges}
use Rattle.policy.specs.Rule.{Rule, separation}
use Rattle.model.specs.declared.fact.Fact.TheVariants.{Control}
use Rattle.model.specs.declared.request.Request.{Request}
use Rattle.model.specs.Answers.{Answer, answer_number}
use Rattle.model.specs.Records.{State, Stands}
use Rattle.model.specs.Runs.{Run}
use Rattle.start.specs.Starts.{Begins}

-- ## The table

-- the bytes of lines, each ended by byte 10
abbrev pub bytes : List String → List ℕ
bytes [] = []
bytes (line ∷ lines) = codes line ++ 10 ∷ bytes lines

abbrev pub pedal : List ℕ
pedal =
    bytes
    ("root=15,0"
    ∷ "gate=65"
    ∷ "account=0,15,1,3,0"
    ∷ "account=1,3,0,4,0"
    ∷ "role=0,15,0,0,0"
    ∷ "role=1,15,1,5,0"
    ∷ "role=2,3,0,0,0"
    ∷ "container=66,3,0,64"
    ∷ "object=65,15,64"
    ∷ "object=67,3,66"
    ∷ "session=1,0,15,67,0"
    ∷ "session=2,1,3,67,0"
    ∷ "right=0,64,4"
    ∷ "right=2,64,4"
    ∷ "right=2,66,4"
    ∷ "right=2,67,2"
    ∷ "held=1,0"
    ∷ "held=1,1"
    ∷ "held=2,2"
    ∷ "access=1,65,2"
    ∷ [])

-- Requests made one after the other from the start, the numbers of their answers, and the pairs of two sessions of which at the
-- end the first controls the second.
pub record Example : Type 0 where
  pub requests : List Request
  pub answers : List ℕ
  pub controls : List (ℕ × ℕ)

abbrev pub request : ℕ → ℕ → ℕ → ℕ → ℕ → ℕ → ℕ → ℕ → Request
request k x v r y z l m = record { k = k; x = x; v = v; r = r; y = y; z = z; l = l; m = m }

-- one request, after which no session controls another
abbrev pub single : Request → ℕ → Example
single q a = record { requests = q ∷ []; answers = a ∷ []; controls = [] }

abbrev pub examples : List Example
examples =
    -- who may write the program of two sessions controls both, even after the access is given up
    record { requests = request 12 2 1 0 67 0 0 2 ∷ request 13 2 1 0 67 0 0 2 ∷ request 13 2 1 0 67 0 0 2 ∷ []; answers = 0 ∷ 0 ∷ 42 ∷ []; controls = (2, 1) ∷ [] }
    -- no role that session 2 holds has a right to write the gate
    ∷ single (request 12 2 1 0 65 0 0 2) 42
    -- 64 is no session, and session 63 does not live
    ∷ single (request 12 64 1 0 65 0 0 2) 21
    ∷ single (request 12 63 1 0 65 0 0 2) 30
    -- 64 is used, and 63 is no entity
    ∷ single (request 5 1 1 0 64 64 0 0) 32
    ∷ single (request 5 1 1 0 63 64 0 0) 21
    -- the ladder ends at 15, and session 1 has no write access to the root
    ∷ single (request 5 1 1 0 68 64 16 0) 22
    ∷ single (request 5 1 1 0 68 64 15 0) 42
    -- 67 lies in no other container
    ∷ single (request 8 2 1 0 67 66 0 0) 35
    -- the gate is protected
    ∷ single (request 9 1 1 0 65 64 0 0) 33
    ∷ []

-- ## What it says

-- separation without pairs
abbrev pub rule : Rule
rule = separation []

abbrev pub paired : ℕ → ℕ → List (ℕ × ℕ) → Bool
paired s t [] = false
paired s t (p ∷ ps) = (s == p.0 && t == p.1) || paired s t ps

-- these answers, and S at the end, are as the example says
pub record Ends (e : Example) (ans : List Answer) (S : State) : Type 0 where
  pub answers : map answer_number ans ≡ e.answers
  pub controls : (s t : ℕ) → s ≢ t → Stands S (Control s t) ↔ T (paired s t e.controls)

-- from S there is a run of the requests, and every run of them ends as the example says
pub record Holds (S : State) (e : Example) : Type 0 where
  pub runs : (ans : List Answer) × (S' : State) × Run ladder rule S e.requests ans S'
  pub ends : (ans : List Answer) (S' : State) → Run ladder rule S e.requests ans S' → Ends e ans S'

pub record Worked : Type 0 where
  -- the text is accepted
  pub starts : (S : State) × Begins ladder rule pedal S
  -- and from the state that it begins every example holds
  pub holds : (S : State) → Begins ladder rule pedal S → AllByRecursion (Holds S) examples
  -- of badges, 1 is at or below 5, and 3 is not
  pub inclusion : T (badges.below 1 5) × ¬ T (badges.below 3 5)
