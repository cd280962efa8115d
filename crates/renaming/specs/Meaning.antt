-- What a command does with the entry that it names.
-- Assumes nothing.
use Rattle.std.specs.Prelude.{ℕ, List, [], ◌∷◌}
use Rattle.lists.specs.Lists.{is_some}
use Rattle.format.specs.Refusals.{Try, Refusal, TAKEN, PROTECTED, ok, ◌>>◌, refuse◌if◌}
use Rattle.format.specs.Geometry.{Geometry, Disc, Write}
use Rattle.format.specs.Layout.{name_offset, Slot, attribute_of, is_protected, find}
use Rattle.format.specs.Effects.{slot_write}

-- the refusals 6 and 5, and the nine bytes of a rename
unfoldable pub rename_to : Geometry → Disc → (nine : List ℕ) → Slot → Try Refusal (List Write)
rename_to G d nine s = do
  refuse PROTECTED if is_protected (attribute_of s)
  refuse TAKEN if is_some (find G d nine)
  ok (slot_write d s name_offset nine ∷ [])
