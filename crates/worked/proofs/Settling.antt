-- A state whose facts that follow are listed.
use Rattle.std.proofs.Common.{◌||◌, List, refl, ⊎_elim}
use Rattle.std.specs.List.{AllByRecursion}
use Rattle.model.specs.declared.fact.Fact.{Fact}
use Rattle.model.specs.Records.{State, Stands, among}
use Rattle.model.specs.Flows.{Derived, before, Settles}
use Rattle.model.proofs.Tests.{either, or_left}
use Rattle.model.proofs.Facts.{listed}
use Rattle.model.proofs.Leastness.{Obeys, least}

-- the state with these facts too
abbrev pub plus : State → List Fact → State
plus S fs =
    record { cards = S.cards; program = S.program; parent = S.parent; stands = λ f. S.stands f || among f fs }

-- facts that follow, and with which the rules are obeyed, are all that follows
pub settles : (S : State) (fs : List Fact) → AllByRecursion (Derived S.cards S.program (Stands S)) fs → Obeys S.cards S.program (Stands (plus S fs)) → Settles S (plus S fs)
settles S fs all o =
    record { cards = refl; program = refl; parent = refl; facts = λ f. (λ s. ⊎_elim (λ b. before b) (λ a. listed (Derived S.cards S.program (Stands S)) fs all f a) (either (S.stands f) (among f fs) s), λ d. least (λ g s. or_left (S.stands g) (among g fs) s) o d) }
