-- What a call leaves, by its refusals and its writes: the number, the sectors of the image, and the list of what was written.
-- Assumes nothing.
use Rattle.std.specs.Prelude.{◌≡◌, ℕ, List, [], length, ltb, Ok, Err}
use Rattle.std.specs.declared.result.Result.{Result}
use Rattle.lists.specs.Lists.{front}
use Rattle.format.specs.Refusals.{Try, Refusal, SHORT, refused, ok, ◌>>=◌, ◌>>◌, refuse◌if◌, number}
use Rattle.format.specs.Geometry as format
use Rattle.format.specs.Geometry.{Disc, Write, written}
use Rattle.format.specs.Writes.{write_list}
use Rattle.format.specs.Calls.{ChangeAnswer}
use Rattle.geometry.specs.Meaning.{geo, sectors_of}
use Rattle.geometry.specs.declared.Geometry.{Geometry}
use Rattle.refusals.specs.declared.Refusal as code
use Rattle.refusals.specs.Meaning.{reason, number_of_refusal, number_of_answer}
use Rattle.answers.specs.declared.filled.Filled.{Filled}

-- refused for the code's reason e
abbrev pub Refuses : {A : Type 0} → Try Refusal A → code.Refusal → Type 0
Refuses t e = t ≡ refused (reason e)

-- the sectors after writes; with a refusal as they were
abbrev pub written_by : Try Refusal (List Write) → Disc → Disc
written_by (refused e) d = d
written_by (ok ws) d = written ws d

-- what a command that writes leaves: the number, and the sectors of the image
pub record Leaves (g : Geometry) (before after : List ℕ) (r : Result (Unit {0}) code.Refusal) (t : Try Refusal (List Write)) : Type 0 where
  pub answers : number_of_answer r ≡ number t
  pub sectors_are : sectors_of g after ≡ written_by t (sectors_of g before)

-- ---- with a list of what was written

-- the answer of a call that fills a lent buffer: the number, and how many bytes stand at the front of the buffer, 0 with a refusal
abbrev pub filled : Result ℕ code.Refusal → Filled
filled (Ok n) = record { number = 0; length = n }
filled (Err e) = record { number = number_of_refusal e; length = 0 }

-- the refusal 10, after all others: the list is longer than the room
unfoldable pub fitting : format.Geometry → (room : ℕ) → Try Refusal (List Write) → Try Refusal (List Write)
fitting G room t = do
  ws ← t
  refuse SHORT if ltb room (length (write_list G ws))
  ok ws

-- the list of the writes; none with a refusal
abbrev pub list_by : format.Geometry → Try Refusal (List Write) → List ℕ
list_by G (refused e) = []
list_by G (ok ws) = write_list G ws

-- what a command leaves that gives a list, where its other refusals and its writes are t
pub record Lists (g : Geometry) (before after lent buffer : List ℕ) (r : Result ℕ code.Refusal) (t : Try Refusal (List Write)) : Type 0 where
  pub answers : (filled r).number ≡ number (fitting (geo g) (length lent) t)
  pub size_is : (filled r).length ≡ length (list_by (geo g) (fitting (geo g) (length lent) t))
  pub sectors_are : sectors_of g after ≡ written_by (fitting (geo g) (length lent) t) (sectors_of g before)
  pub buffer_is : buffer ≡ front (list_by (geo g) (fitting (geo g) (length lent) t)) lent

-- what the code answers, the image and the lent buffer afterwards
abbrev pub change_answer : Filled → (image buffer : List ℕ) → ChangeAnswer
change_answer r image buffer = record { number = r.number; size = r.length; image = image; buffer = buffer }
