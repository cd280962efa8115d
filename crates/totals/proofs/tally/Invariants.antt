-- `totals::tally` meets its contract.
use Rattle.std.proofs.Common.{◌≡◌, length}
use Rattle.totals.specs.Meaning.{Running, tallied}
use Rattle.totals.specs.Totals.{credits_of}
use Rattle.totals.proofs.tally.Given as goal

abbrev pub invariant-loop-record : goal.invariant-loop-record
invariant-loop-record l = Running l.sums × (tallied (credits_of l.left) l.sums ≡ tallied (credits_of l.sheet) l.initial.sums)

abbrev pub decreases-loop-record : goal.decreases-loop-record
decreases-loop-record l = length l.left
