-- `listing::put_sector_records` meets its contract. The loop's invariant: the records of the slots from slot `index` on are left to store.
use Rattle.format.specs.Layout.{slots_at}
use Rattle.geometry.specs.Meaning.{sectors_of}
use Rattle.slots.specs.InOrder.{slots_from}
use Rattle.listing.specs.Meaning.{records_of}
use Rattle.records.specs.Storing.{Storing}
use Rattle.listing.proofs.put_sector_records.Given as goal

abbrev pub invariant-loop-index : goal.invariant-loop-index
invariant-loop-index l =
    let d = sectors_of l.fn.g l.image in
    Storing l.initial.buffer l.at (records_of (slots_at d l.fn.n.0)) l.buffer l.next (records_of (slots_from d l.fn.n.0 l.index))
