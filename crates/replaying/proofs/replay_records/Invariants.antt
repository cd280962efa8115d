-- `replaying::replay_records` meets its contract.
use Rattle.std.proofs.Common.{◌≡◌, true, length}
use Rattle.lists.specs.Lists.{is_some}
use Rattle.format.specs.Writes.{held}
use Rattle.geometry.specs.Meaning.{geo, sectors_of}
use Rattle.replaying.specs.Meaning.{replayed}
use Rattle.replaying.proofs.replay_records.Given as goal

abbrev pub invariant-loop-first : goal.invariant-loop-first
invariant-loop-first l = record {
  kept : length l.image ≡ length l.initial.image;
  list_is : is_some (held (geo l.g) l.unwritten) ≡ true;
  sectors_are : replayed (geo l.g) l.unwritten (sectors_of l.g l.image) ≡ replayed (geo l.g) l.list (sectors_of l.g l.initial.image);
}

abbrev pub decreases-loop-first : goal.decreases-loop-first
decreases-loop-first l = length l.unwritten
