-- `fsck_chains::follow_from` meets its contract. What is left of the walk, from `at` on, decides.
use Rattle.std.proofs.Common.{◌-◌, ◌≤◌}
use Rattle.format.specs.Geometry.{go}
use Rattle.geometry.specs.Meaning.{geo, sectors_of}
use Rattle.disc.specs.Meaning.{Lies}
use Rattle.fsck_chains.specs.Walks.{Walking}
use Rattle.fsck_chains.proofs.follow_from.Given as goal

abbrev pub invariant-loop-count : goal.invariant-loop-count
invariant-loop-count l =
    (l.count ≤ l.most) × Lies l.g l.at
    × Walking (geo l.g) (sectors_of l.g l.image) (l.most - l.count) l.count (go l.at.number.0) l.marks 0 (go l.fn.first.number.0) l.initial.marks

abbrev pub decreases-loop-count : goal.decreases-loop-count
decreases-loop-count l = l.most - l.count
