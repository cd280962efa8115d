-- The steps of the call save.
-- Assumes nothing.
use Rattle.std.specs.Prelude.{◌≡◌, ℕ, ◌<◌, not, List, length, ltb, Ok, Err}
use Rattle.std.specs.declared.option.Option as code
use Rattle.std.specs.declared.result.Result.{Result}
use Rattle.std.proofs.Math.Option.{Option}
use Rattle.lists.specs.Lists.{is_some}
use Rattle.format.specs.Refusals.{Try, Refusal, NAME, MODULE, UNSOUND, TAKEN, ROOM, ok, ◌>>=◌, ◌>>◌, refuse◌if◌, ◌or_refuse◌}
use Rattle.format.specs.Geometry as format
use Rattle.format.specs.Geometry.{Disc, Write}
use Rattle.format.specs.Names.{stored}
use Rattle.format.specs.Layout.{Slot, free, open_slot, find}
use Rattle.format.specs.Check.{sound}
use Rattle.format.specs.Modules.{Module, storable}
use Rattle.format.specs.Effects.{needed, save_writes}
use Rattle.geometry.specs.Meaning.{sectors_of}
use Rattle.geometry.specs.declared.Geometry.{Geometry}
use Rattle.answers.specs.Meaning.{Refuses}
use Rattle.refusals.specs.declared.Refusal as refusal
use Rattle.slots.specs.declared.slot_no.SlotNo.{SlotNo}
use Rattle.directory.specs.Meaning.{found_of, Within}

-- the module that a save is handed: its page, start and transfer, and the sheet
abbrev pub handed : (page start transfer : ℕ) (sheet : List ℕ) → Module
handed page start transfer sheet = record { page = page; start = start; transfer = transfer; bytes = sheet }

-- the refusals 2, 7 and 3: the name as it is stored
unfoldable pub save_name_on : format.Geometry → Disc → (name : List ℕ) → Module → Try Refusal (List ℕ)
save_name_on G d name m = do
  nine ← stored name or_refuse NAME
  refuse MODULE if not (storable m)
  refuse UNSOUND if not (sound G d)
  ok nine

-- the refusals 5 and 8 for a module of L bytes: the slot that its entry takes, or none where the directory grows
unfoldable pub vacancy_on : format.Geometry → Disc → (nine : List ℕ) (L : ℕ) → Try Refusal (Option Slot)
vacancy_on G d nine L = do
  refuse TAKEN if is_some (find G d nine)
  refuse ROOM if ltb (length (free G d)) (needed G d L)
  ok (open_slot G d)

-- the writes of a save under a stored name, after these refusals
unfoldable pub save_as : format.Geometry → Disc → (nine : List ℕ) → Module → Try Refusal (List Write)
save_as G d nine m = do
  s ← vacancy_on G d nine (length m.bytes)
  ok (save_writes G d nine m)

-- the code's answer for the entry's slot: one of a sector of the disc, or none; or its refusal
abbrev pub Offers : Geometry → List ℕ → Result (code.Option SlotNo) refusal.Refusal → Try Refusal (Option Slot) → Type 0
Offers g image (Ok slot) t = (t ≡ ok (found_of (sectors_of g image) slot)) × Within (λ n. n < g.sectors) slot
Offers g image (Err e) t = Refuses t e
