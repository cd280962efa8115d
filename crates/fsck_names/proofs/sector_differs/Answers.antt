-- `fsck_names::sector_differs` meets its contract.
use Rattle.slots.specs.InOrder.{use_next, use_over}
use Rattle.fsck_names.specs.Tally.{covers_slot, covers_slots}
use Rattle.fsck_names.specs.Differ.{apart_over, apart_not, apart_next}
use Rattle.fsck_names.proofs.sector_differs.Goals as goal

pub slot_differs-requires : goal.slot_differs-requires
slot_differs-requires c =
    let pre = c.requires in
    (pre.0, pre.1, pre.2, covers_slot _ _ _ _ c.loop-index.invariant.0 c.loop-index-test.true)

pub returns-then-not-slot_differs : goal.returns-then-not-slot_differs
returns-then-not-slot_differs c =
    apart_not _ c.loop-index.invariant.1 _ _ (use_next _ _ _ c.loop-index-test.true) c.slot_differs.ensures c.if-not-slot_differs.true

pub loop-index-preserved : goal.loop-index-preserved
loop-index-preserved c =
    let inv = c.loop-index.invariant in
    let apart = apart_next _ inv.1 _ _ (use_next _ _ _ c.loop-index-test.true) c.slot_differs.ensures c.if-not-slot_differs.false in
    (covers_slots _ _ _ _ inv.0 c.loop-index-test.true, apart)

pub returns : goal.returns
returns c = apart_over _ c.loop-index.invariant.1 (use_over _ _ _ c.loop-index-test.false)
