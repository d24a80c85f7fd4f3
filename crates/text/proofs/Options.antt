-- What is known of an option. Assumes nothing.
use Rattle.std.proofs.Common.{Some, None, Option, MatchOption}

pub weaker : {A : Type 0} (o : Option A) {P P' : Type 0} {Q Q' : A → Type 0} → (P → P') → ((x : A) → Q x → Q' x) → MatchOption o P Q → MatchOption o P' Q'
weaker None f g h = f h
weaker (Some x) f g h = g x h
