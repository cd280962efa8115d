-- `fsck_entries::sector_good` meets its contract. The slots before `index` are passed.
use Rattle.std.proofs.Common.{◌≤◌}
use Rattle.geometry.specs.Meaning.{sectors_of}
use Rattle.fsck_entries.specs.Good.{Passed}
use Rattle.fsck_entries.proofs.sector_good.Given as goal

abbrev pub invariant-loop-index : goal.invariant-loop-index
invariant-loop-index l = record { few : l.used ≤ l.index; passed : Passed (sectors_of l.g l.image) l.n.0 l.index l.used }
