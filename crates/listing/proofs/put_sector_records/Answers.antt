-- `listing::put_sector_records` meets its contract.
use Rattle.std.proofs.Common.{ap, ◌∙◌}
use Rattle.geometry.specs.Meaning.{sectors_of}
use Rattle.slots.specs.InOrder.{slots_all, slots_end}
use Rattle.listing.specs.Meaning.{records_of}
use Rattle.listing.specs.Laws.{records_none, records_step}
use Rattle.records.specs.Storing.{storing_all, storing_step, storing_room, storing_end}
use Rattle.listing.proofs.put_sector_records.Goals as goal

pub loop-index-init : goal.loop-index-init
loop-index-init c = storing_all _ _ (ap records_of (slots_all (sectors_of c.args.g c.args.image.now) c.args.n.0))

pub put_slot_record-next-requires : goal.put_slot_record-next-requires
put_slot_record-next-requires c =
    let met = records_step (sectors_of c.args.g c.args.image.now) c.args.n.0 _ c.loop-index-test.true in
    (c.requires.0, c.requires.1, storing_room _ _ c.loop-index.invariant met c.requires.2)

pub loop-index-preserved : goal.loop-index-preserved
loop-index-preserved c =
    let met = records_step (sectors_of c.args.g c.args.image.now) c.args.n.0 _ c.loop-index-test.true in
    storing_step _ _ c.loop-index.invariant met c.put_slot_record-next.ensures

pub returns : goal.returns
returns c =
    let over = slots_end (sectors_of c.args.g c.args.image.now) c.args.n.0 _ c.loop-index-test.false in
    storing_end c.loop-index.invariant (ap records_of over ∙ records_none)
