-- `fsck_names::tally_sector` meets its contract.
use Rattle.slots.specs.InOrder.{use_next, use_over}
use Rattle.fsck_names.specs.Tally.{tally_over, tally_next}
use Rattle.fsck_names.proofs.tally_sector.Goals as goal

pub loop-index-preserved : goal.loop-index-preserved
loop-index-preserved c = tally_next _ _ c.loop-index.invariant _ _ (use_next _ _ _ c.loop-index-test.true) c.tally_slot.ensures

pub returns : goal.returns
returns c = tally_over _ _ c.loop-index.invariant (use_over _ _ _ c.loop-index-test.false)
