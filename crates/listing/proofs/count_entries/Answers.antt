-- `listing::count_entries` meets its contract.
use Rattle.std.proofs.Common.{arith, ap, length}
use Rattle.directory.specs.Laws.{loop_starts, loop_goes, left_all, left_over}
use Rattle.listing.specs.Laws.{entries_few, used_met}
use Rattle.listing.proofs.count_entries.Goals as goal

pub loop-n-init : goal.loop-n-init
loop-n-init c =
    let start = loop_starts c.requires c.into_iter-n-iterator.ensures.into_iter_gives c.sectors-n-items.ensures.all in
    (start.0, omega (arith, ap length (left_all c.args.g c.args.image.now _ start.1)))

pub count_sector-count-requires : goal.count_sector-count-requires
count_sector-count-requires c = (c.requires, (loop_goes c.args.g _ _ c.loop-n.invariant.0 c.in-Some.ensures.steps).0)

pub overflow_add-count : goal.overflow_add-count
overflow_add-count c =
    let im = c.requires in
    let met = used_met c.args.g c.args.image.now _ _ _ c.in-Some.ensures.steps in
    omega (arith, met, c.count_sector-count.ensures, c.loop-n.invariant.1, entries_few im, im.valid.few_sectors)

pub loop-n-preserved : goal.loop-n-preserved
loop-n-preserved c = (
  (loop_goes c.args.g _ _ c.loop-n.invariant.0 c.in-Some.ensures.steps).1,
  omega (arith, used_met c.args.g c.args.image.now _ _ _ c.in-Some.ensures.steps, c.count_sector-count.ensures, c.loop-n.invariant.1),
)

pub returns : goal.returns
returns c =
    let none = ap length (left_over c.args.g c.args.image.now _ c.in-None.ensures.steps.0) in
    (omega (arith, none, c.loop-n.invariant.1), omega (arith, none, c.loop-n.invariant.1, entries_few c.requires))
