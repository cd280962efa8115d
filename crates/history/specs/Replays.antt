-- Document 02, request e: "Replaying the list on the old image gives exactly the new image."
-- Assumes nothing.
use Rattle.std.specs.Prelude.{◌≡◌, ℕ, List, take}
use Rattle.format.specs.Geometry.{Format}
use Rattle.format.specs.Modules.{Module}
use Rattle.format.specs.Calls.{answered, ChangeAnswer, after_save, after_delete, after_rename, after_protect, after_replay}

-- the list that a command gave: it stands at the front of the lent buffer, as long as the answer says
abbrev pub list_of : ChangeAnswer → List ℕ
list_of a = take a.size a.buffer

-- a command that was accepted on this image: replaying its list there is accepted, and gives its image
abbrev pub Replayed : Format → List ℕ → ChangeAnswer → Type 0
Replayed F image a = a.number ≡ 0 → after_replay F image (list_of a) ≡ answered 0 a.image

-- the claim, for each command that gives a list, and any bytes handed in
pub record Replays (F : Format) : Type 0 where
  pub save : (image name : List ℕ) (m : Module) (buffer : List ℕ) → Replayed F image (after_save F image name m buffer)
  pub delete : (image name buffer : List ℕ) → Replayed F image (after_delete F image name buffer)
  pub rename : (image old new buffer : List ℕ) → Replayed F image (after_rename F image old new buffer)
  pub protect : (image name : List ℕ) (on : ℕ) (buffer : List ℕ) → Replayed F image (after_protect F image name on buffer)
