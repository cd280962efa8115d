-- `fsck::free_good` meets its contract.
use Rattle.fsck.specs.Free.{free_broken, free_ended}
use Rattle.fsck.proofs.free_good.Goals as goal

pub returns-in_default : goal.returns-in_default
returns-in_default c = free_broken _ _ c.free_step-first.ensures.0 _ c.in_default.ensures

pub returns : goal.returns
returns c = free_ended _ _ c.free_step-first.ensures.0 _ c.in-Some.ensures _ c.free_count.ensures
