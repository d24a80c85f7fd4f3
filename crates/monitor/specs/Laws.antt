-- The two laws, of a history of the requests qs with the answers ans that led from the text to the block b.
use Rattle.std.specs.Prelude.{◌≡◌, ℕ, List, ◌++◌}
use Rattle.policy.specs.Order.{Order}
use Rattle.policy.specs.Rule.{Rule}
use Rattle.model.specs.declared.request.Request.{Request}
use Rattle.model.specs.Answers.{Answer}
use Rattle.model.specs.Records.{State}
use Rattle.model.specs.Runs.{Run}
use Rattle.model.specs.Laws.{kept, AllAccepted, StandsIn, Quiet, Unchanged}
use Rattle.block.specs.declared.block.Block.{Block}
use Rattle.block.specs.Lent.{block_state}
use Rattle.start.specs.Starts.{Begins}
use Rattle.monitor.specs.Histories.{History}

-- Taking back never opens a door: a fresh block, just after the same text, that is given only the accepted giving requests, one
-- by one, accepts them all, and then all that stands in b stands there.
abbrev pub Replayed : Order → Rule → List ℕ → List Request → List Answer → Block → Type 0
Replayed o h bytes qs ans b =
    (fresh N : State) (bs : List Answer) → Begins o h bytes fresh → Run o h fresh (kept qs ans) bs N → AllAccepted bs × StandsIn (block_state b) N

-- A level is changed from there alone: over any stretch of the history, which may begin or end between two records of a list,
-- in which no accepted request comes from a session at or above L, everything at or above L is unchanged.
abbrev pub Isolated : Order → Rule → List ℕ → List Request → List Answer → Block → Type 0
Isolated o h bytes qs ans b =
    (L : ℕ) (fresh P Q : State) (before during after : List Request) (as₁ as₂ as₃ : List Answer) → Begins o h bytes fresh → Run o h fresh before as₁ P → (stretch : Run o h P during as₂ Q) → Run o h Q after as₃ (block_state b) → before ++ (during ++ after) ≡ qs → as₁ ++ (as₂ ++ as₃) ≡ ans → Quiet o h L stretch → Unchanged o L P Q

abbrev pub Replay : Order → Rule → Type 0
Replay o h = (bytes : List ℕ) (qs : List Request) (ans : List Answer) (b : Block) → History o h bytes qs ans b → Replayed o h bytes qs ans b

abbrev pub Isolation : Order → Rule → Type 0
Isolation o h = (bytes : List ℕ) (qs : List Request) (ans : List Answer) (b : Block) → History o h bytes qs ans b → Isolated o h bytes qs ans b

-- both
pub record Laws (o : Order) (h : Rule) (bytes : List ℕ) (qs : List Request) (ans : List Answer) (b : Block) : Type 0 where
  pub replay : Replayed o h bytes qs ans b
  pub isolation : Isolated o h bytes qs ans b

-- Of a call that found the block b, answered the requests rs by as, and left the block b': for every text and every history that
-- led to b, the history lengthened by the call has both laws.
abbrev pub LawsAfter : Order → Rule → Block → List Request → List Answer → Block → Type 0
LawsAfter o h b rs bs b' =
    (bytes : List ℕ) (qs : List Request) (ans : List Answer) → History o h bytes qs ans b → Laws o h bytes (qs ++ rs) (ans ++ bs) b'

-- Of a call that answers no request.
abbrev pub LawsStay : Order → Rule → Block → Block → Type 0
LawsStay o h b b' =
    (bytes : List ℕ) (qs : List Request) (ans : List Answer) → History o h bytes qs ans b → Laws o h bytes qs ans b'
