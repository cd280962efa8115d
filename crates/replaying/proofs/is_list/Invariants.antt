-- `replaying::is_list` meets its contract.
use Rattle.std.proofs.Common.{◌≡◌, length}
use Rattle.lists.specs.Lists.{is_some}
use Rattle.format.specs.Writes.{held}
use Rattle.geometry.specs.Meaning.{geo}
use Rattle.replaying.proofs.is_list.Given as goal

abbrev pub invariant-loop-first : goal.invariant-loop-first
invariant-loop-first l = is_some (held (geo l.g) l.left) ≡ is_some (held (geo l.g) l.list)

abbrev pub decreases-loop-first : goal.decreases-loop-first
decreases-loop-first l = length l.left
