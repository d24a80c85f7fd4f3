-- The outcome of a start text.
use Rattle.std.specs.Prelude.{◌≡◌, ℕ, ◌+◌, true, false, List, ◌∷◌, ◌++◌, length, Ok, Err}
use Rattle.policy.specs.Order.{Order}
use Rattle.policy.specs.Rule.{Rule}
use Rattle.text.specs.declared.record.Line.{Line}
use Rattle.text.specs.declared.record.Fault.{Fault}
use Rattle.text.specs.declared.record.Fault.TheVariants as fault
use Rattle.text.specs.Lines.{Accepted, Refused}
use Rattle.model.specs.declared.answer.StartRefusal.{StartRefusal}
use Rattle.model.specs.declared.answer.Refusal.{Refusal}
use Rattle.model.specs.declared.answer.Refusal.TheVariants as refusal
use Rattle.model.specs.Answers.{StartAnswer}
use Rattle.model.specs.Records.{State}
use Rattle.model.specs.Needs.{Fails}
use Rattle.model.specs.Flows.{Settles}
use Rattle.block.specs.declared.block.Block.{Block}
use Rattle.block.specs.Lent.{started, block_state}
use Rattle.start.specs.Setup.{listed}
use Rattle.start.specs.Grounds.{asks, Clean}

-- line n is the first whose needs are not all met, and the first of these that fails has the refusal
pub record Stops (o : Order) (h : Rule) (lines : List Line) (why : Refusal) (n : ℕ) : Type 0 where
  pub later : List Line
  pub line : Line
  pub earlier : List Line
  pub whole : lines ≡ later ++ line ∷ earlier
  pub clean : Clean o h (listed lines) earlier
  pub fails : Fails (asks o h (listed lines) (listed earlier) line) why
  pub number : n ≡ length earlier + 1

-- the second reading of lines
abbrev pub Second : Order → Rule → List Line → StartAnswer → Type 0
Second o h lines (Ok read) = Clean o h (listed lines) lines
Second o h lines (Err why) = Stops o h lines why.refusal why.line

-- the refusal of a fault of the first reading
abbrev pub refusal_for : Fault → Refusal
refusal_for fault.Size = refusal.TextTooLong
refusal_for fault.Form = refusal.LineForm
refusal_for fault.Order = refusal.LineOrder
refusal_for fault.Range = refusal.LineRange

-- a text that is refused: in the first reading, or else in the second
pub data Refuses (o : Order) (h : Rule) (bytes : List ℕ) : StartRefusal → Type 0 where
  first : (why : Fault) {n : ℕ} → Refused bytes why n → Refuses o h bytes (record { refusal = refusal_for why; line = n })
  second : {ls : List Line} {why : Refusal} {n : ℕ} → Accepted bytes ls → Stops o h ls why n → Refuses o h bytes (record { refusal = why; line = n })

-- a text that is accepted, and the state that it begins: what its lines list, with all that follows
pub record Begins (o : Order) (h : Rule) (bytes : List ℕ) (S : State) : Type 0 where
  pub lines : List Line
  pub read : Accepted bytes lines
  pub clean : Clean o h (listed lines) lines
  pub settled : Settles (listed lines) S

-- both readings: the state that the text begins, or why it is refused
abbrev pub Reads : Order → Rule → List ℕ → StartAnswer → State → Type 0
Reads o h bytes (Ok read) S = Begins o h bytes S
Reads o h bytes (Err why) S = Refuses o h bytes why

-- the answer to a start at the block b, and the block after it
pub data Start (o : Order) (h : Rule) (b : Block) (bytes : List ℕ) : StartAnswer → Block → Type 0 where
  again : started b ≡ true → Start o h b bytes (Err (record { refusal = refusal.Started; line = 0 })) b
  refused : {why : StartRefusal} → started b ≡ false → Refuses o h bytes why → Start o h b bytes (Err why) b
  accepted : {b' : Block} → started b ≡ false → started b' ≡ true → Begins o h bytes (block_state b') → Start o h b bytes (Ok tt) b'
