-- `fsck_names::later_repeats` meets its contract.
use Rattle.directory.specs.Laws.{loop_goes, left_met, left_over}
use Rattle.fsck_names.specs.Differ.{named_over, named_here, named_later}
use Rattle.fsck_names.proofs.later_repeats.Goals as goal

pub returns-then-sector_repeats : goal.returns-then-sector_repeats
returns-then-sector_repeats c =
    named_here _ c.loop-m.invariant.1 _ _ (left_met _ _ _ _ _ c.in-Some.ensures.steps) c.sector_repeats.ensures c.if-sector_repeats.true

pub loop-m-preserved : goal.loop-m-preserved
loop-m-preserved c =
    let next = c.in-Some.ensures.steps in
    let later = named_later _ c.loop-m.invariant.1 _ _ (left_met _ _ _ _ _ next) c.sector_repeats.ensures c.if-sector_repeats.false in
    ((loop_goes c.args.g _ _ c.loop-m.invariant.0 next).1, later)

pub returns : goal.returns
returns c = named_over _ c.loop-m.invariant.1 (left_over _ _ _ c.in-None.ensures.steps.0)
