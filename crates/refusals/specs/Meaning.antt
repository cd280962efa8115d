-- What the code's refusals and answers mean in the definitions of the disc format.
-- Assumes nothing.
use Rattle.std.specs.Prelude.{ℕ, Ok, Err}
use Rattle.std.specs.declared.result.Result.{Result}
use Rattle.format.specs.Refusals as format
use Rattle.format.specs.Refusals.{SIZE, NAME, UNSOUND, ABSENT, TAKEN, PROTECTED, MODULE, ROOM}
use Rattle.format.specs.Refusals.{NOT-PLAIN, SHORT, NO-SECTOR, BAD-SHEET, TOTAL, BAD-LIST, number_of}
use Rattle.refusals.specs.declared.Refusal.{Refusal}
use Rattle.refusals.specs.declared.Refusal.TheVariants.{Size, Name, Unsound, Absent, Taken, Protected, Module, Room}
use Rattle.refusals.specs.declared.Refusal.TheVariants.{NotPlain, Short, NoSector, BadSheet, Total, BadList}

-- the refusal of the code in the table's names
abbrev pub reason : Refusal → format.Refusal
reason Size = SIZE
reason Name = NAME
reason Unsound = UNSOUND
reason Absent = ABSENT
reason Taken = TAKEN
reason Protected = PROTECTED
reason Module = MODULE
reason Room = ROOM
reason NotPlain = NOT-PLAIN
reason Short = SHORT
reason NoSector = NO-SECTOR
reason BadSheet = BAD-SHEET
reason Total = TOTAL
reason BadList = BAD-LIST

-- its number
abbrev pub number_of_refusal : Refusal → ℕ
number_of_refusal e = number_of (reason e)

-- the number of an answer: 0 is done
abbrev pub number_of_answer : {A : Type 0} → Result A Refusal → ℕ
number_of_answer (Ok a) = 0
number_of_answer (Err e) = number_of_refusal e
