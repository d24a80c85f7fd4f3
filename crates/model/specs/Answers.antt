-- The answers, and what each tells a host: its number, and at a start the line at fault.
use Rattle.std.specs.Prelude.{ℕ, Ok, Err, Result}
use Rattle.model.specs.declared.answer.Refusal.{Refusal}
use Rattle.model.specs.declared.answer.Refusal.TheVariants.{Blank, Started, ListTooLong, BufferTooShort, TextTooLong, LineForm, LineOrder, LineRange, LineUndefined, LineLevelUnknown, LineLevels, LineNotReached, LineRule, Form, Range, LevelUnknown, NoSession, WrongItem, NumberUsed, Protected, NotInContainer, OtherHoldings, RoleDenied, KeyLocked, AccessMissing, NotReached, Levels, NoVoucher, RuleDenies}
use Rattle.model.specs.declared.answer.StartRefusal.{StartRefusal}

abbrev pub refusal_number : Refusal → ℕ
refusal_number Blank = 1
refusal_number Started = 2
refusal_number ListTooLong = 3
refusal_number BufferTooShort = 4
refusal_number TextTooLong = 10
refusal_number LineForm = 11
refusal_number LineOrder = 12
refusal_number LineRange = 13
refusal_number LineUndefined = 14
refusal_number LineLevelUnknown = 15
refusal_number LineLevels = 16
refusal_number LineNotReached = 17
refusal_number LineRule = 18
refusal_number Form = 20
refusal_number Range = 21
refusal_number LevelUnknown = 22
refusal_number NoSession = 30
refusal_number WrongItem = 31
refusal_number NumberUsed = 32
refusal_number Protected = 33
refusal_number NotInContainer = 34
refusal_number OtherHoldings = 35
refusal_number RoleDenied = 40
refusal_number KeyLocked = 41
refusal_number AccessMissing = 42
refusal_number NotReached = 43
refusal_number Levels = 50
refusal_number NoVoucher = 51
refusal_number RuleDenies = 60

-- ## The answer to a request or a list

abbrev pub Answer : Type 0
Answer = Result (Unit {0}) Refusal

-- 0 is accepted
abbrev pub answer_number : Answer → ℕ
answer_number (Ok _) = 0
answer_number (Err why) = refusal_number why

-- ## The answer to a start

abbrev pub StartAnswer : Type 0
StartAnswer = Result (Unit {0}) StartRefusal

abbrev pub start_number : StartAnswer → ℕ
start_number (Ok _) = 0
start_number (Err why) = refusal_number why.refusal

abbrev pub answer_line : StartAnswer → ℕ
answer_line (Ok _) = 0
answer_line (Err why) = why.line
