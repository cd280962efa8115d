-- What read answers, and the refusals that it decides last.
-- Assumes nothing.
use Rattle.std.specs.Prelude.{ℕ, List, length, ltb, Ok, Err}
use Rattle.std.specs.declared.result.Result.{Result}
use Rattle.std.proofs.Math.Option.{Option}
use Rattle.format.specs.Refusals.{Try, Refusal, NOT-PLAIN, SHORT, ok, ◌>>=◌, ◌>>◌, refuse◌if◌, ◌or_refuse◌}
use Rattle.format.specs.Modules.{Module}
use Rattle.format.specs.Calls.{ReadAnswer}
use Rattle.refusals.specs.declared.Refusal as code
use Rattle.refusals.specs.Meaning.{number_of_refusal}
use Rattle.reading.specs.declared.answer.Header.{Header}
use Rattle.reading.specs.declared.answer.Reading.{Reading}

-- the code's answer as C takes it: with a refusal every other number is 0
abbrev pub reading_of : Result Header code.Refusal → Reading
reading_of (Ok h) = record { number = 0; page = h.page; start = h.start; end = h.end; transfer = h.transfer; length = h.length }
reading_of (Err e) = record { number = number_of_refusal e; page = 0; start = 0; end = 0; transfer = 0; length = 0 }

-- with the buffer as it is left
abbrev pub read_answer : Reading → List ℕ → ReadAnswer
read_answer r buffer = record { number = r.number; page = r.page; start = r.start; end = r.end; transfer = r.transfer; size = r.length; buffer = buffer }

-- the refusals 9 and 10: what a file's sectors hold, lent so much room
unfoldable pub file_on : Option Module → (room : ℕ) → Try Refusal Module
file_on o room = do
  m ← o or_refuse NOT-PLAIN
  refuse SHORT if ltb room (length m.bytes)
  ok m
