-- `listing::put_entries` meets its contract.
use Rattle.std.proofs.Common.{ap, sym, ◌∙◌}
use Rattle.format.specs.Layout.{slots_of}
use Rattle.geometry.specs.Meaning.{geo, sectors_of}
use Rattle.directory.specs.Laws.{loop_starts, loop_goes, slots_none, slots_are}
use Rattle.listing.specs.Meaning.{records_of}
use Rattle.listing.specs.Laws.{records_none, records_met}
use Rattle.records.specs.Storing.{storing_all, storing_step, storing_room, storing_end}
use Rattle.listing.proofs.put_entries.Goals as goal

pub loop-n-init : goal.loop-n-init
loop-n-init c =
    let d = sectors_of c.args.g c.args.image.now in
    let start = loop_starts c.requires.0 c.into_iter-n-iterator.ensures.into_iter_gives c.sectors-n-items.ensures.all in
    (start.0, storing_all _ _ (ap records_of (slots_are (geo c.args.g) d ∙ ap (slots_of d) (sym start.1))))

pub put_sector_records-position-requires : goal.put_sector_records-position-requires
put_sector_records-position-requires c =
    let met = records_met (sectors_of c.args.g c.args.image.now) _ _ _ c.in-Some.ensures.steps in
    (c.requires.0, (loop_goes c.args.g _ _ c.loop-n.invariant.0 c.in-Some.ensures.steps).0, storing_room _ _ c.loop-n.invariant.1 met c.requires.1)

pub loop-n-preserved : goal.loop-n-preserved
loop-n-preserved c =
    let met = records_met (sectors_of c.args.g c.args.image.now) _ _ _ c.in-Some.ensures.steps in
    ((loop_goes c.args.g _ _ c.loop-n.invariant.0 c.in-Some.ensures.steps).1, storing_step _ _ c.loop-n.invariant.1 met c.put_sector_records-position.ensures)

pub returns : goal.returns
returns c =
    let d = sectors_of c.args.g c.args.image.now in
    storing_end c.loop-n.invariant.1 (ap records_of (ap (slots_of d) c.in-None.ensures.steps.0 ∙ slots_none d) ∙ records_none)
