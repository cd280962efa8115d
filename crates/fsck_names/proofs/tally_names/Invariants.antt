-- `fsck_names::tally_names` meets its contract. What is left to count, in the sectors that the walk still meets, gives the whole.
use Rattle.std.proofs.Common.{◌≡◌}
use Rattle.format.specs.Layout.{entries}
use Rattle.geometry.specs.Meaning.{geo, sectors_of}
use Rattle.directory.specs.Meaning.{MeetsDisc, entries_left}
use Rattle.fsck_names.specs.Tally.{tallied}
use Rattle.fsck_names.proofs.tally_names.Given as goal

abbrev pub invariant-loop-n : goal.invariant-loop-n
invariant-loop-n l =
    MeetsDisc l.fn.g l.n-iterator
    × (tallied 16384 l.table (entries_left l.fn.g l.image l.n-iterator) ≡ tallied 16384 l.initial.table (entries (geo l.fn.g) (sectors_of l.fn.g l.image)))
