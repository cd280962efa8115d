-- `fsck_names::directory_differs` meets its contract.
use Rattle.std.proofs.Common.{refl, sym, ap, ◌∙◌}
use Rattle.format.specs.Check.{differ}
use Rattle.directory.specs.Laws.{loop_starts, loop_goes, left_all, left_met, left_over}
use Rattle.fsck_names.specs.Tally.{covers_as, covers_sector}
use Rattle.fsck_names.specs.Differ.{rule4_is, differ_over, differ_not, differ_next}
use Rattle.fsck_names.proofs.directory_differs.Goals as goal

pub loop-n-init : goal.loop-n-init
loop-n-init c =
    let start = loop_starts c.requires.0 refl c.sectors-walk.ensures.all in
    let all = left_all _ _ _ start.1 in
    (start.0, covers_as c.requires.1 (sym all), ap differ all ∙ rule4_is _ _)

pub sector_differs-requires : goal.sector_differs-requires
sector_differs-requires c =
    let next = c.in-Some.ensures.steps in
    let on = loop_goes c.args.g _ _ c.loop-n.invariant.0 next in
    (c.requires.0, on.0, on.1, covers_as c.loop-n.invariant.1 (left_met _ _ _ _ _ next))

pub returns-then-not-sector_differs : goal.returns-then-not-sector_differs
returns-then-not-sector_differs c =
    differ_not c.loop-n.invariant.2 _ _ (left_met _ _ _ _ _ c.in-Some.ensures.steps) c.sector_differs.ensures c.if-not-sector_differs.true

pub loop-n-preserved : goal.loop-n-preserved
loop-n-preserved c =
    let inv = c.loop-n.invariant in
    let next = c.in-Some.ensures.steps in
    let met = left_met _ _ _ _ _ next in
    ((loop_goes c.args.g _ _ inv.0 next).1, covers_sector _ _ inv.1 met, differ_next inv.2 _ _ met c.sector_differs.ensures c.if-not-sector_differs.false)

pub returns : goal.returns
returns c = differ_over c.loop-n.invariant.2 (left_over _ _ _ c.in_default.ensures.steps.0)
