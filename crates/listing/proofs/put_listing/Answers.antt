-- `listing::put_listing` meets its contract.
use Rattle.std.proofs.Common.{arith}
use Rattle.format.specs.Effects.{listing}
use Rattle.geometry.specs.Meaning.{geo, sectors_of}
use Rattle.listing.specs.Laws.{disc_long}
use Rattle.listing.specs.Whole.{Ending, room_disc, room_entries, ending}
use Rattle.listing.proofs.put_listing.Goals as goal
use Rattle.listing.proofs.put_listing.Goals.{After-put_entries-last}

-- all but the last byte is stored
stored : (c : After-put_entries-last) → let a = c.args in
    Ending (listing (geo a.g) (sectors_of a.g a.image.now)) a.buffer.now c.put_entries-last.new.buffer c.put_entries-last.result
stored c = ending _ _ _ c.requires.1 c.put_disc-first.ensures c.put_entries-last.ensures

pub put_disc-first-requires : goal.put_disc-first-requires
put_disc-first-requires c =
    let a = c.args in
    let pre = c.requires in
    (pre.0, omega (arith, disc_long pre.0, room_disc (geo a.g) (sectors_of a.g a.image.now) a.buffer.now pre.1))

pub put_entries-last-requires : goal.put_entries-last-requires
put_entries-last-requires c =
    let pre = c.requires in
    (pre.0, room_entries _ _ _ pre.1 c.put_disc-first.ensures)

pub bounds-buffer-last : goal.bounds-buffer-last
bounds-buffer-last c = (stored (goal.at.bounds-buffer-last c).After-put_entries-last).room

pub returns : goal.returns
returns c = (stored (goal.at.returns c).After-put_entries-last).whole
