-- The states that the worked pedal goes through: at its start, after a gain, and after that is given up.
use Rattle.std.proofs.Common.{List, [], ◌∷◌, arith, lit≤}
use Rattle.policy.specs.Order.{ladder}
use Rattle.model.specs.declared.fact.Fact.{Fact}
use Rattle.model.specs.declared.fact.Fact.TheVariants.{Flow, Control}
use Rattle.model.specs.declared.request.Request.{Request}
use Rattle.model.specs.declared.request.Kind.TheVariants.{Gain, GiveUp}
use Rattle.model.specs.Records.{State, Stands, Session}
use Rattle.model.specs.Effects.{effect, apply}
use Rattle.model.specs.Flows.{Derived, before, itself, writing, by_program, Settles}
use Rattle.model.proofs.Leastness.{Obeys}
use Rattle.start.specs.Starts.{Begins}
use Rattle.worked.specs.Worked.{pedal, rule, request}
use Rattle.worked.proofs.Pedal.{lines, all, read, clean}
use Rattle.worked.proofs.Settling.{plus, settles}

one : Session 1
one = (lit≤ tt, lit≤ tt)

two : Session 2
two = (lit≤ tt, lit≤ tt)

-- ## The start

abbrev pub begun : State
begun = plus all (Control 1 1 ∷ Control 2 2 ∷ [])

obeys_begun : Obeys all.cards all.program (Stands begun)
obeys_begun =
    record { itself = λ s h d. grind arith; owner = λ s t h i d. grind arith; onward = λ s t u d e. grind arith; writing = λ s t e u d a. grind arith; reading = λ s t e u d a. grind arith; passing = λ a b c d e. grind arith; by_program = λ s t h i n d. grind arith; by_key = λ s t h i l n d. grind arith; outward = λ s t e u d a. grind arith; inward = λ s t e u d a. grind arith }

pub begins : Begins ladder rule pedal begun
begins =
    record { lines = lines; read = read; clean = clean; settled = settles all (Control 1 1 ∷ Control 2 2 ∷ []) (itself one (before tt), (itself two (before tt), tt)) obeys_begun }

-- ## Session 2 gains write access to its program, which is that of session 1 too

abbrev pub gain : Request
gain = request 12 2 1 0 67 0 0 2

abbrev given : State
given = apply (effect gain Gain) begun

abbrev follows : List Fact
follows = Flow 2 67 ∷ Control 2 1 ∷ Flow 2 65 ∷ []

abbrev pub gained : State
gained = plus given follows

obeys_gained : Obeys all.cards all.program (Stands gained)
obeys_gained =
    record { itself = λ s h d. grind arith; owner = λ s t h i d. grind arith; onward = λ s t u d e. grind arith; writing = λ s t e u d a. grind arith; reading = λ s t e u d a. grind arith; passing = λ a b c d e. grind arith; by_program = λ s t h i n d. grind arith; by_key = λ s t h i l n d. grind arith; outward = λ s t e u d a. grind arith; inward = λ s t e u d a. grind arith }

pub settles_gained : Settles given gained
settles_gained = settles given follows (to_program, (control, (writing (two, tt) control (before tt), tt))) obeys_gained
  where
    to_program : Derived all.cards all.program (Stands given) (Flow 2 67)
    to_program = writing {t = 2} (two, tt) (before tt) (before tt)

    control : Derived all.cards all.program (Stands given) (Control 2 1)
    control = by_program two one (λ e. omega arith) to_program

-- ## It gives that access up

abbrev pub give_up : Request
give_up = request 13 2 1 0 67 0 0 2

abbrev given_up : State
given_up = apply (effect give_up GiveUp) gained

abbrev pub ended : State
ended = plus given_up []

obeys_ended : Obeys all.cards all.program (Stands ended)
obeys_ended =
    record { itself = λ s h d. grind arith; owner = λ s t h i d. grind arith; onward = λ s t u d e. grind arith; writing = λ s t e u d a. grind arith; reading = λ s t e u d a. grind arith; passing = λ a b c d e. grind arith; by_program = λ s t h i n d. grind arith; by_key = λ s t h i l n d. grind arith; outward = λ s t e u d a. grind arith; inward = λ s t e u d a. grind arith }

pub settles_ended : Settles given_up ended
settles_ended = settles given_up [] tt obeys_ended
