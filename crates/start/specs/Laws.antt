-- The laws of starts.
use Rattle.std.specs.Prelude.{◌≡◌, ℕ, List}
use Rattle.policy.specs.Order.{Order}
use Rattle.policy.specs.Rule.{Rule}
use Rattle.model.specs.Answers.{StartAnswer}
use Rattle.model.specs.Records.{State}
use Rattle.model.specs.Laws.{Settled, Sound}
use Rattle.block.specs.declared.block.Block.{Block}
use Rattle.block.specs.Lent.{started, block_state}
use Rattle.start.specs.Starts.{Begins, Start}

-- in the state that an accepted text begins stands all that follows, and every fact keeps to its level condition
abbrev pub SoundStart : Order → Rule → Type 0
SoundStart o h = (bytes : List ℕ) (S : State) → Begins o h bytes S → Settled S × Sound o S

-- a text leaves one answer at a block, and one state after it
abbrev pub OneStart : Order → Rule → Type 0
OneStart o h =
    (b b₁ b₂ : Block) (bytes : List ℕ) (a₁ a₂ : StartAnswer) → Start o h b bytes a₁ b₁ → Start o h b bytes a₂ b₂ → (a₁ ≡ a₂) × (started b₁ ≡ started b₂) × (block_state b₁ ≡ block_state b₂)
