-- `fsck_names::directory_differs` meets its contract. The answer hangs on the sectors that the walk still meets.
use Rattle.std.proofs.Common.{◌≡◌, length}
use Rattle.format.specs.Check.{differ, rule4}
use Rattle.geometry.specs.Meaning.{geo, sectors_of}
use Rattle.directory.specs.Walk.{rest_of}
use Rattle.directory.specs.Meaning.{MeetsDisc, entries_left}
use Rattle.fsck_names.specs.Tally.{Covers}
use Rattle.fsck_names.proofs.directory_differs.Given as goal

abbrev pub invariant-loop-n : goal.invariant-loop-n
invariant-loop-n l =
    MeetsDisc l.g l.walk × Covers l.table (entries_left l.g l.image l.walk)
    × (differ (entries_left l.g l.image l.walk) ≡ rule4 (geo l.g) (sectors_of l.g l.image))

abbrev pub decreases-loop-n : goal.decreases-loop-n
decreases-loop-n l = length (rest_of l.walk)
