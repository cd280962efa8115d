-- Document 02, request k: "Each call on one of our images .. must give on a moved image the same answer as on the plain one, and the moved
-- form of its result. Show this once for any arrangement of the ten places, and then for these two."; and what gives 1, with request m.
-- Assumes nothing.
use Rattle.std.specs.Prelude.{◌≡◌, ◌≢◌, ℕ, suc, ◌<◌, List, length}
use Rattle.lists.specs.Lists.{Once}
use Rattle.format.specs.Refusals.{Try, Refusal, SIZE, refused, ok, ◌>>=◌, value_or}
use Rattle.format.specs.Geometry.{Format, stated, arranged, geometry, cut, flat, Part, moved_part, bytes_of}
use Rattle.format.specs.Modules.{Module}
use Rattle.format.specs.Calls as calls
use Rattle.format.specs.Calls.{Answer, answered, ChangeAnswer, change_answer_by, list_answer_by, read_answer_by, after_check, after_list, after_read, after_save, after_delete, after_rename, after_protect, after_replay, after_repair, after_blank, view_number, view_part}

-- an arrangement of a track's places: each sector of the track once
abbrev pub Arrangement : Format → List ℕ → Type 0
Arrangement F A = Once (suc F.per_track) A

module _ (F : Format) (A : List ℕ) where
  -- "only the place in the image moves": the same sectors in the arrangement A. An image of a wrong length has no sectors, and stays.
  unfoldable pub moved_form : List ℕ → List ℕ
  moved_form image = value_or image (do
    G ← geometry F (length image)
    ok (flat (arranged A F) G (cut F G image)))

  -- the part at the moved place; a refused view has none
  unfoldable pub moved_view : List ℕ → Try Refusal Part → Try Refusal Part
  moved_view image v = do
    G ← geometry F (length image)
    p ← v
    ok (moved_part F A G p)

  -- "the same answer .. and the moved form of its result"
  abbrev pub moved_answer : Answer → Answer
  moved_answer a = answered a.number (moved_form a.image)

  -- the same with a list of writes, which names sectors by track and sector and so does not move
  abbrev pub moved_change : ChangeAnswer → ChangeAnswer
  moved_change a = record { number = a.number; size = a.size; image = moved_form a.image; buffer = a.buffer }

  -- every call, for all its arguments: on the moved form of an image, in the arrangement A, and on the image itself
  pub record Moves : Type 0 where
    pub check : (image : List ℕ) → after_check (arranged A F) (moved_form image) ≡ after_check F image
    pub list : (image buffer : List ℕ) → after_list (arranged A F) (moved_form image) buffer ≡ after_list F image buffer
    pub read : (image name buffer : List ℕ) → after_read (arranged A F) (moved_form image) name buffer ≡ after_read F image name buffer
    pub save : (image name : List ℕ) (m : Module) (buffer : List ℕ)
        → after_save (arranged A F) (moved_form image) name m buffer ≡ moved_change (after_save F image name m buffer)
    pub delete : (image name buffer : List ℕ) → after_delete (arranged A F) (moved_form image) name buffer ≡ moved_change (after_delete F image name buffer)
    pub rename : (image old new buffer : List ℕ)
        → after_rename (arranged A F) (moved_form image) old new buffer ≡ moved_change (after_rename F image old new buffer)
    pub protect : (image name : List ℕ) (on : ℕ) (buffer : List ℕ)
        → after_protect (arranged A F) (moved_form image) name on buffer ≡ moved_change (after_protect F image name on buffer)
    pub replay : (image writes : List ℕ) → after_replay (arranged A F) (moved_form image) writes ≡ moved_answer (after_replay F image writes)
    pub repair : (image : List ℕ) → after_repair (arranged A F) (moved_form image) ≡ moved_answer (after_repair F image)
    pub blank : (image name : List ℕ) → after_blank (arranged A F) (moved_form image) name ≡ moved_answer (after_blank F image name)
    -- the part at the moved place, with the same bytes; the number of a view is a call of its own
    pub view : (image : List ℕ) (track sector : ℕ)
        → calls.view (arranged A F) (moved_form image) track sector ≡ moved_view image (calls.view F image track sector)
    pub number_of_view : (image : List ℕ) (track sector : ℕ) → view_number (arranged A F) (moved_form image) track sector ≡ view_number F image track sector
    pub view_bytes : (image : List ℕ) (track sector : ℕ)
        → bytes_of (view_part (arranged A F) (moved_form image) track sector) (moved_form image) ≡ bytes_of (view_part F image track sector) image

-- the claim, for any arrangement
unfoldable pub MovesAlike : Format → Type 0
MovesAlike F = (A : List ℕ) → Arrangement F A → Moves F A

-- Every image is a moved form: moved and moved back it is as it was, so `Moves` says of every image in the arrangement A what the calls do with it.
unfoldable pub MovesBack : Format → Type 0
MovesBack F =
    (A : List ℕ) → Arrangement F A → (image : List ℕ)
    → (moved_form (arranged A F) F.arrangement (moved_form F A image) ≡ image) × (moved_form F A (moved_form (arranged A F) F.arrangement image) ≡ image)

-- every call is refused with 1 and leaves what was lent
pub record GivesOne (F : Format) : Type 0 where
  pub check : (image : List ℕ) → after_check F image ≡ record { number = 1; rule = 0 }
  pub list : (image buffer : List ℕ) → after_list F image buffer ≡ list_answer_by buffer (refused SIZE)
  pub read : (image name buffer : List ℕ) → after_read F image name buffer ≡ read_answer_by buffer (refused SIZE)
  pub save : (image name : List ℕ) (m : Module) (buffer : List ℕ) → after_save F image name m buffer ≡ change_answer_by image buffer (refused SIZE)
  pub delete : (image name buffer : List ℕ) → after_delete F image name buffer ≡ change_answer_by image buffer (refused SIZE)
  pub rename : (image old new buffer : List ℕ) → after_rename F image old new buffer ≡ change_answer_by image buffer (refused SIZE)
  pub protect : (image name : List ℕ) (on : ℕ) (buffer : List ℕ) → after_protect F image name on buffer ≡ change_answer_by image buffer (refused SIZE)
  pub replay : (image writes : List ℕ) → after_replay F image writes ≡ answered 1 image
  pub repair : (image : List ℕ) → after_repair F image ≡ answered 1 image
  pub blank : (image name : List ℕ) → after_blank F image name ≡ answered 1 image
  pub view : (image : List ℕ) (track sector : ℕ) → calls.view F image track sector ≡ refused SIZE

-- Of the arrangement "another number gives 1"; of the sectors a track "or another number was stated"; "Arrangement 1 .. answer[s] 1 for nine".
pub record OtherNumbers : Type 0 where
  pub arrangement : (k a : ℕ) → 1 < a → GivesOne (stated k a)
  pub per_track : (k a : ℕ) → k ≢ 9 → k ≢ 10 → GivesOne (stated k a)
  pub nine_moved : GivesOne (stated 9 1)
