-- `fsck_names::slot_differs` meets its contract.
use Rattle.std.proofs.Common.{◌≡◌, sym, ◌∙◌, false}
use Rattle.format.specs.Layout.{free_slot, slot_at}
use Rattle.geometry.specs.Meaning.{sectors_of}
use Rattle.fsck_names.specs.Differ.{apart_free, apart_taken, apart_later}
use Rattle.fsck_names.specs.Tally.{apart_lone}
use Rattle.fsck_names.proofs.slot_differs.Goals as goal
use Rattle.fsck_names.proofs.slot_differs.Goals.{Else-slot_free}

used : (c : Else-slot_free) → let a = c.args in free_slot (slot_at (sectors_of a.g a.image.now) a.slot.sector.0 a.slot.index) ≡ false
used c = sym c.slot_free.ensures ∙ c.if-slot_free.false

pub returns-then-slot_free : goal.returns-then-slot_free
returns-then-slot_free c = apart_free _ _ (sym c.slot_free.ensures ∙ c.if-slot_free.true)

pub returns-then-is_lone : goal.returns-then-is_lone
returns-then-is_lone c =
    let bucket = c.slot_bucket-k.ensures in
    apart_lone _ _ c.requires.3 (used (goal.at.returns-then-is_lone c).Else-slot_free) _ bucket.0 bucket.1 c.if-is_lone.true

pub returns-then-sector_repeats : goal.returns-then-sector_repeats
returns-then-sector_repeats c =
    apart_taken _ _ _ (used (goal.at.returns-then-sector_repeats c).Else-slot_free) c.sector_repeats.ensures c.if-sector_repeats.true

pub returns : goal.returns
returns c = apart_later _ _ _ (used (goal.at.returns c).Else-slot_free) c.sector_repeats.ensures c.if-sector_repeats.false c.later_repeats.ensures
