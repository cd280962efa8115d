-- The answer of the check as C sees it.
-- Assumes nothing.
use Rattle.format.specs.Calls.{CheckAnswer}
use Rattle.tandos.specs.declared.CheckNumbers.{CheckNumbers}

abbrev pub check_answer : CheckNumbers → CheckAnswer
check_answer r = record { number = r.number; rule = r.rule }
