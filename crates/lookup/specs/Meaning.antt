-- What the first steps of a call mean: the entry that it names.
-- Assumes nothing.
use Rattle.std.specs.Prelude.{◌≡◌, ℕ, ◌<◌, true, not, List, Ok, Err}
use Rattle.std.specs.declared.result.Result.{Result}
use Rattle.format.specs.Refusals.{Try, Refusal, NAME, UNSOUND, ABSENT, ok, ◌>>=◌, ◌>>◌, refuse◌if◌, ◌or_refuse◌}
use Rattle.format.specs.Geometry as format
use Rattle.format.specs.Geometry.{Disc}
use Rattle.format.specs.Names.{stored, legal_stored}
use Rattle.format.specs.Layout.{Slot, find}
use Rattle.format.specs.Check.{sound}
use Rattle.geometry.specs.Meaning.{sectors_of}
use Rattle.geometry.specs.declared.Geometry.{Geometry}
use Rattle.answers.specs.Meaning.{Refuses}
use Rattle.refusals.specs.declared.Refusal as code
use Rattle.names.specs.declared.Name.{Name}
use Rattle.slots.specs.declared.slot_no.SlotNo.{SlotNo}
use Rattle.slots.specs.Meaning.{slot_of}

-- the refusals 2 and 3: the name as it is stored
unfoldable pub named_on : format.Geometry → Disc → (name : List ℕ) → Try Refusal (List ℕ)
named_on G d name = do
  nine ← stored name or_refuse NAME
  refuse UNSOUND if not (sound G d)
  ok nine

-- the refusal 4: the entry of a stored name
unfoldable pub slot_on : format.Geometry → Disc → (nine : List ℕ) → Try Refusal Slot
slot_on G d nine = find G d nine or_refuse ABSENT

-- the refusals 2, 3 and 4, which read, delete and protect begin with: the entry of the name
unfoldable pub entry_on : format.Geometry → Disc → (name : List ℕ) → Try Refusal Slot
entry_on G d name = do
  nine ← named_on G d name
  slot_on G d nine

-- the code's answer for a name: its nine bytes as stored, which are a legal name, or its refusal
abbrev pub Names : Result Name code.Refusal → Try Refusal (List ℕ) → Type 0
Names (Ok n) t = (t ≡ ok n.bytes) × (legal_stored n.bytes ≡ true)
Names (Err e) t = Refuses t e

-- the code's answer for the entry of a name
abbrev pub Judges : Geometry → List ℕ → Result SlotNo code.Refusal → Try Refusal Slot → Type 0
Judges g image (Ok s) t = (t ≡ ok (slot_of (sectors_of g image) s)) × (s.sector.0 < g.sectors)
Judges g image (Err e) t = Refuses t e
