use Rattle.std.proofs.Common.{◌≡◌, ℕ, ◌<◌, ◌≤◌, eqb, get_or}
use Rattle.block.specs.Reading.{no_session}
use Rattle.block.specs.Writing.{leaving}
use Rattle.block.proofs.forgetting.leave.Given as goal

-- the sessions below t are left, and the others are as they were
abbrev pub invariant-loop-t : goal.invariant-loop-t
invariant-loop-t l =
    ((k : ℕ) → k < l.t → get_or l.sessions k no_session ≡ leaving (eqb k l.item) l.item l.parent (get_or l.initial.sessions k no_session))
    × ((k : ℕ) → l.t ≤ k → get_or l.sessions k no_session ≡ get_or l.initial.sessions k no_session)
