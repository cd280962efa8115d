-- `fsck_names::tally_names` meets its contract.
use Rattle.std.proofs.Common.{ap}
use Rattle.directory.specs.Laws.{loop_starts, loop_goes, left_all, left_met, left_over}
use Rattle.fsck_names.specs.Tally.{tallied, tally_over, tally_next}
use Rattle.fsck_names.proofs.tally_names.Goals as goal

pub loop-n-init : goal.loop-n-init
loop-n-init c =
    let start = loop_starts c.requires c.into_iter-n-iterator.ensures.into_iter_gives c.sectors-n-items.ensures.all in
    (start.0, ap (tallied 16384 c.args.table.now) (left_all _ _ _ start.1))

pub loop-n-preserved : goal.loop-n-preserved
loop-n-preserved c =
    let next = c.in-Some.ensures.steps in
    ((loop_goes c.args.g _ _ c.loop-n.invariant.0 next).1, tally_next _ _ c.loop-n.invariant.1 _ _ (left_met _ _ _ _ _ next) c.tally_sector.ensures)

pub returns : goal.returns
returns c = tally_over _ _ c.loop-n.invariant.1 (left_over _ _ _ c.in-None.ensures.steps.0)
