-- What the code's structs say of a slot and of an entry.
-- Assumes nothing.
use Rattle.std.specs.Prelude.{◌≡◌}
use Rattle.format.specs.Geometry.{Disc}
use Rattle.format.specs.Layout.{Slot, slot_at, length_of, attribute_of, first_of, last_of}
use Rattle.geometry.specs.Meaning.{geo}
use Rattle.disc.specs.Meaning.{meaning, Inside}
use Rattle.geometry.specs.declared.Geometry.{Geometry}
use Rattle.slots.specs.declared.Entry.{Entry}
use Rattle.slots.specs.declared.slot_no.SlotNo.{SlotNo}

-- the slot that stands there
abbrev pub slot_of : Disc → SlotNo → Slot
slot_of d s = slot_at d s.sector.0 s.index

-- what the entry in slot s says
pub record EntryIs (g : Geometry) (e : Entry) (s : Slot) : Type 0 where
  pub length_is : e.length ≡ length_of s
  pub first_is : meaning e.first ≡ first_of (geo g) s
  pub last_is : meaning e.last ≡ last_of (geo g) s
  pub attribute_is : e.attribute ≡ attribute_of s
  pub first_inside : Inside g e.first
  pub last_inside : Inside g e.last
