-- `listing::count_entries` meets its contract. The loop's invariant: the count and the entries of the sectors that the walk still meets are all entries.
use Rattle.std.proofs.Common.{◌+◌, ◌≡◌, length}
use Rattle.format.specs.Layout.{entries}
use Rattle.geometry.specs.Meaning.{geo, sectors_of}
use Rattle.directory.specs.Meaning.{MeetsDisc, entries_left}
use Rattle.listing.proofs.count_entries.Given as goal

abbrev pub invariant-loop-n : goal.invariant-loop-n
invariant-loop-n l =
    MeetsDisc l.fn.g l.n-iterator
    × (l.count + length (entries_left l.fn.g l.image l.n-iterator) ≡ length (entries (geo l.fn.g) (sectors_of l.fn.g l.image)))
