-- What the laws of proofs/ListedLaws.antt speak of.
-- Assumes nothing.
use Rattle.std.specs.Prelude.{◌≡◌, ℕ, ◌≤◌, length}
use mathlib.Core.List.{List}
use Rattle.format.specs.Refusals.{Try, Refusal, refused, ok}
use Rattle.format.specs.Geometry.{Format, Geometry, Disc, cut, flat, Write, written}
use Rattle.format.specs.Writes.{write_list}
use Rattle.format.specs.Calls.{Change, ChangeAnswer, change_answer_by}

-- what is left where these sectors are written
abbrev pub change_by : Format → Geometry → Disc → List Write → Change
change_by F G d ws = record { image = flat F G (written ws d); list = write_list G ws }

-- refused, with image and buffer as they were; or accepted with these writes, whose list fits
pub data Outcome (F : Format) (G : Geometry) (image buffer : List ℕ) (f : Geometry → Disc → Try Refusal (List Write)) : ChangeAnswer → Type 0 where
  stays : (e : Refusal) → Outcome F G image buffer f (change_answer_by image buffer (refused e))
  writes : (ws : List Write) → f G (cut F G image) ≡ ok ws → length (write_list G ws) ≤ length buffer
      → Outcome F G image buffer f (change_answer_by image buffer (ok (change_by F G (cut F G image) ws)))
