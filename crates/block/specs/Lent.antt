-- What a lent block holds.
use Rattle.std.specs.Prelude.{Bool, is_some}
use Rattle.std.specs.Option.{option_map, unwrap_or}
use Rattle.model.specs.Records.{State}
use Rattle.block.specs.declared.block.Block.{Block}
use Rattle.block.specs.Reading.{state}
use Rattle.block.specs.Writing.{empty}

-- a start was accepted
abbrev pub started : Block → Bool
started b = is_some b.records

-- the state of its records, or the empty one before any start
abbrev pub block_state : Block → State
block_state b = unwrap_or (option_map state b.records) empty
