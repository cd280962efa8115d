-- What the code's types mean in the definitions of the disc format, and what its functions ensure.
-- Assumes nothing.
use Rattle.std.specs.Prelude.{◌≡◌, ℕ, ◌<◌, Bool, Some, None}
use Rattle.std.specs.declared.option.Option as code
use Rattle.std.proofs.Math.Option.{Option, none, some}
use mathlib.Core.List.{List, head?}
use Rattle.lists.specs.Lists.{filter}
use Rattle.lists.specs.ListLaws.{All}
use Rattle.format.specs.Geometry.{Disc}
use Rattle.format.specs.Layout.{Slot, in_use, slots_of}
use Rattle.geometry.specs.Meaning.{sectors_of}
use Rattle.geometry.specs.declared.Geometry.{Geometry}
use Rattle.slots.specs.declared.slot_no.SlotNo.{SlotNo}
use Rattle.slots.specs.Meaning.{slot_of}
use Rattle.directory.specs.declared.walk.Sectors.{Sectors}
use Rattle.directory.specs.Walk.{rest_of}

-- the entries of the sectors that a walk still meets
unfoldable pub entries_left : Geometry → List ℕ → Sectors → List Slot
entries_left g image w = in_use (slots_of (sectors_of g image) (rest_of w))

-- a walk meets sectors of the disc
abbrev pub MeetsDisc : Geometry → Sectors → Type 0
MeetsDisc g w = All (λ n. n < g.sectors) (rest_of w)

-- ---- the search

-- the first of the slots that passes the test
abbrev pub first_that : (Slot → Bool) → List Slot → Option Slot
first_that p ss = head? (filter p ss)

-- a test of the code may be asked of each slot whose sector is as `on` says
abbrev pub MayAsk : (on : ℕ → Type 0) → (pre : SlotNo → Type 0) → Type 0
MayAsk on pre = (s : SlotNo) → on s.sector.0 → pre s

-- and answers as p does
abbrev pub Answers : (on : ℕ → Type 0) → Disc → (post : SlotNo → Bool → Type 0) → (Slot → Bool) → Type 0
Answers on d post p = (s : SlotNo) (r : Bool) → on s.sector.0 → post s r → r ≡ p (slot_of d s)

-- the slot that was found
abbrev pub found_of : Disc → code.Option SlotNo → Option Slot
found_of d (Some s) = some (slot_of d s)
found_of d None = none

-- it is a slot of such a sector
abbrev pub Within : (on : ℕ → Type 0) → code.Option SlotNo → Type 0
Within on (Some s) = on s.sector.0
Within on None = Unit {0}

-- the answer of a search that is to find s
pub record Finds (g : Geometry) (image : List ℕ) (r : code.Option SlotNo) (s : Option Slot) : Type 0 where
  pub slot : found_of (sectors_of g image) r ≡ s
  pub within : Within (λ n. n < g.sectors) r
