-- `fsck_files::all_files` meets its contract. What is left of the pass, in the sectors that the walk still meets, decides. Each of them adds at most
-- 12,000 sectors, so the sum is bounded by those that were met.
use Rattle.std.proofs.Common.{◌+◌, ◌*◌, ◌≤◌, length}
use Rattle.format.specs.Layout.{entries}
use Rattle.geometry.specs.Meaning.{geo, sectors_of}
use Rattle.directory.specs.Walk.{rest_of}
use Rattle.directory.specs.Meaning.{MeetsDisc, entries_left}
use Rattle.fsck_files.specs.Files.{Filing}
use Rattle.fsck_files.proofs.all_files.Given as goal

abbrev pub invariant-loop-n : goal.invariant-loop-n
invariant-loop-n l =
    let d = sectors_of l.fn.g l.image in
    MeetsDisc l.fn.g l.n-iterator × (l.sum + 12000 * length (rest_of l.n-iterator) ≤ 9600000)
    × Filing (geo l.fn.g) d (entries_left l.fn.g l.image l.n-iterator) l.marks l.sum (entries (geo l.fn.g) d) l.initial.marks
