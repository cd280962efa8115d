-- `fsck_names::sector_repeats` meets its contract.
use Rattle.slots.specs.InOrder.{use_next, use_over}
use Rattle.fsck_names.specs.Differ.{named_over, named_here, named_later}
use Rattle.fsck_names.proofs.sector_repeats.Goals as goal

pub returns-then-slot_repeats : goal.returns-then-slot_repeats
returns-then-slot_repeats c = named_here _ c.loop-index.invariant _ _ (use_next _ _ _ c.loop-index-test.true) c.slot_repeats.ensures c.if-slot_repeats.true

pub loop-index-preserved : goal.loop-index-preserved
loop-index-preserved c =
    named_later _ c.loop-index.invariant _ _ (use_next _ _ _ c.loop-index-test.true) c.slot_repeats.ensures c.if-slot_repeats.false

pub returns : goal.returns
returns c = named_over _ c.loop-index.invariant (use_over _ _ _ c.loop-index-test.false)
