-- What a check finds of needs.
use Rattle.std.specs.Prelude.{Bool, List, Ok, Err, MatchBool, Result}
use Rattle.model.specs.declared.answer.Refusal.{Refusal}
use Rattle.model.specs.Needs.{Need, Met, Fails}

-- all are met, or else the first that fails has this refusal
abbrev pub Judged : List Need → Result (Unit {0}) Refusal → Type 0
Judged ns (Ok met) = Met ns
Judged ns (Err refusal) = Fails ns refusal

-- the test tells whether P holds
abbrev pub Tells : Bool → Type 0 → Type 0
Tells r P = MatchBool r P (¬ P)
