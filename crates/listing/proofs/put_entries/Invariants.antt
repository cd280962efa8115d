-- `listing::put_entries` meets its contract. The loop's invariant: the records of the sectors that the walk still meets are left to store.
use Rattle.format.specs.Layout.{slots_of, slots}
use Rattle.geometry.specs.Meaning.{geo, sectors_of}
use Rattle.directory.specs.Walk.{rest_of}
use Rattle.directory.specs.Meaning.{MeetsDisc}
use Rattle.listing.specs.Meaning.{records_of}
use Rattle.records.specs.Storing.{Storing}
use Rattle.listing.proofs.put_entries.Given as goal

abbrev pub invariant-loop-n : goal.invariant-loop-n
invariant-loop-n l =
    let d = sectors_of l.fn.g l.image in
    MeetsDisc l.fn.g l.n-iterator
    × Storing l.initial.buffer l.at (records_of (slots (geo l.fn.g) d)) l.buffer l.position (records_of (slots_of d (rest_of l.n-iterator)))
