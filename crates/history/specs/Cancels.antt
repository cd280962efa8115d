-- Document 02, request h, "Correction and retraction cancel": its two laws, over what the calls answer and leave, the buffers for request e's lists
-- among what is lent.
-- Assumes nothing.
use Rattle.std.specs.Prelude.{◌≡◌, ◌≢◌, ℕ, ◌/◌, ◌%◌, ◌<◌, Bool, false, ◌&&◌, ◌||◌, List, length, take, eqb, leb}
use Rattle.lists.specs.Lists.{byte, elem, last_or}
use Rattle.format.specs.Refusals.{ok}
use Rattle.format.specs.Geometry.{Format, Geometry, geometry, sector_at, Disc, cut}
use Rattle.format.specs.Names.{stored}
use Rattle.format.specs.Layout.{link_offset, free}
use Rattle.format.specs.Modules.{Module, sectors_for}
use Rattle.format.specs.Effects.{growth}
use Rattle.format.specs.Calls.{after_save, after_delete, after_rename}

-- ---- a save, and the delete of its file

-- An image is made of bytes, as the calls' types hold it. The counts alone ask for this: with larger numbers 300, 0 would count as 44, 1 does.
abbrev pub AllBytes : List ℕ → Type 0
AllBytes image = (i : ℕ) → byte image i < 256

-- "the sectors that the file took": "from the head of the free chain, in order, as many as the module takes" (document 01)
unfoldable pub file_took : Geometry → Disc → Module → List ℕ
file_took G d m = take (sectors_for (length m.bytes)) (free G d)

-- "except bytes 2 to 255 of the sectors that the file took, and the track byte of the old end of the free chain where the save reached it": byte k of
-- sector n, where a link begins with its track byte; d is the disc before the save
unfoldable pub excepted : Geometry → Disc → Module → (n k : ℕ) → Bool
excepted G d m n k = elem n (file_took G d m) && (leb 2 k || (eqb n (last_or 0 (free G d)) && eqb k link_offset))

-- "every byte of the image is as before except ..": byte i is byte i % 256 of the sector at the place i / 256
pub record Cancelled (F : Format) (G : Geometry) (image : List ℕ) (m : Module) (back : List ℕ) : Type 0 where
  pub size : length back ≡ length image
  pub as_before : (i : ℕ) → excepted G (cut F G image) m (sector_at F G (i / 256)) (i % 256) ≡ false → byte back i ≡ byte image i

-- "If a save is accepted, needs no new directory sector, and the same file is deleted by the next call, accepted too": the same file is that of the
-- same stored name
unfoldable pub SaveDeleteCancel : Format → Type 0
SaveDeleteCancel F =
    (image : List ℕ) (G : Geometry) → geometry F (length image) ≡ ok G → AllBytes image
    → (name again : List ℕ) → stored again ≡ stored name → (m : Module) (buffer buffer' : List ℕ)
    → let saved = after_save F image name m buffer in
    let deleted = after_delete F saved.image again buffer' in
    saved.number ≡ 0 → growth G (cut F G image) ≡ 0 → deleted.number ≡ 0 → Cancelled F G image m deleted.image

-- ---- two renames

-- "renaming A to B and directly then B to C, both accepted, gives the image that A to C, lent the same as A to B, gives when C isn't A, and the
-- starting image when C is A": names are the same where they are stored alike, and each may be typed otherwise the second time
unfoldable pub RenamesJoin : Format → Type 0
RenamesJoin F =
    (image a b c a' b' c' : List ℕ) → stored a' ≡ stored a → stored b' ≡ stored b → stored c' ≡ stored c → (buffer buffer' : List ℕ)
    → let first = after_rename F image a b buffer in
    let second = after_rename F first.image b' c buffer' in
    let direct = after_rename F image a' c' buffer in
    first.number ≡ 0 → second.number ≡ 0
    → (stored c ≢ stored a → (direct.number ≡ 0) × (second.image ≡ direct.image)) × (stored c ≡ stored a → second.image ≡ image)
