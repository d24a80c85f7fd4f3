-- An item is gone.
use Rattle.std.proofs.Common.{◌≡◌, ℕ, ◌≤◌, arith}
use Rattle.std.proofs.lemmas.Bool.Decides.{nat_tests}
use Rattle.model.specs.Records.{State, about}
use Rattle.block.specs.declared.records.Records.{Records}
use Rattle.block.specs.Reading.{state}
use Rattle.block.specs.Writing.{dropping, of_item, of_session}

-- the facts about a session, and those about an entity
pub session_gone : (S : State) (i : ℕ) → dropping (of_session i) (dropping (of_item i) S) ≡ dropping (about i) S
session_gone S i = grind (arith, nat_tests)

pub entity_gone : (b : Records) (i : ℕ) → 64 ≤ i → dropping (of_item i) (state b) ≡ dropping (about i) (state b)
entity_gone b i h = grind (arith, nat_tests)
