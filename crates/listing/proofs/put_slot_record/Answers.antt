-- `listing::put_slot_record` meets its contract.
use Rattle.std.proofs.Common.{arith, ap, sym, ◌∙◌, length}
use Rattle.slots.specs.Meaning.{slot_of}
use Rattle.geometry.specs.Meaning.{sectors_of}
use Rattle.listing.specs.Laws.{records_free, records_one, entry_long}
use Rattle.records.specs.Storing.{stored_as, stored_none}
use Rattle.listing.proofs.put_slot_record.Goals as goal

pub returns-then-slot_free : goal.returns-then-slot_free
returns-then-slot_free c = stored_as (sym (records_free _ (sym c.slot_free.ensures ∙ c.if-slot_free.true))) (stored_none _ _)

pub put_entry-requires : goal.put_entry-requires
put_entry-requires c =
    let a = c.args in
    let one = records_one (slot_of (sectors_of a.g a.image.now) a.slot) (sym c.slot_free.ensures ∙ c.if-slot_free.false) in
    let long = entry_long c.requires.0 a.slot.sector.0 a.slot.index c.requires.1 a.slot.in_sector in
    (c.requires.0, c.requires.1, omega (arith, c.requires.2, long, ap length one))

pub returns : goal.returns
returns c = stored_as (sym (records_one _ (sym c.slot_free.ensures ∙ c.if-slot_free.false))) c.put_entry.ensures
