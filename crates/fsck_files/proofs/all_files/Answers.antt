-- `fsck_files::all_files` meets its contract. What is left of the pass, in the sectors that the walk still meets, decides.
use Rattle.std.proofs.Common.{arith, ap, length}
use Rattle.format.specs.Geometry.{sectors}
use Rattle.format.specs.Layout.{directory_pointer, directory}
use Rattle.format.proofs.ChainLaws.{met_few}
use Rattle.geometry.specs.Meaning.{geo, sectors_of}
use Rattle.directory.specs.Laws.{loop_starts, loop_goes, left_all, left_met, left_over}
use Rattle.fsck_files.specs.Files.{filing_start, filing_over, filing_bad, filing_next}
use Rattle.fsck_files.proofs.all_files.Goals as goal

pub loop-n-init : goal.loop-n-init
unfolding directory
loop-n-init c =
    let start = loop_starts c.requires c.into_iter-n-iterator.ensures.into_iter_gives c.sectors-n-items.ensures.all in
    let G = geo c.args.g in
    let d = sectors_of c.args.g c.args.image.now in
    let few = met_few G d (sectors G) (directory_pointer G d) in
    (start.0, omega (arith, ap length start.1, few, c.requires.valid), filing_start _ (left_all c.args.g c.args.image.now _ start.1))

pub sector_files-requires : goal.sector_files-requires
sector_files-requires c = (c.requires, (loop_goes c.args.g _ _ c.loop-n.invariant.0 c.in-Some.ensures.steps).0)

pub returns-in_err-more : goal.returns-in_err-more
returns-in_err-more c =
    rw c.from_residual.ensures
    (filing_bad c.loop-n.invariant.2 _ _ (left_met c.args.g c.args.image.now _ _ _ c.in-Some.ensures.steps) c.in_err-more.ensures)

pub loop-n-preserved : goal.loop-n-preserved
loop-n-preserved c =
    let next = c.in-Some.ensures.steps in (
      (loop_goes c.args.g _ _ c.loop-n.invariant.0 next).1,
      omega (arith, c.in_ok-more.ensures.few, ap length next, c.loop-n.invariant.1),
      filing_next c.loop-n.invariant.2 _ _ (left_met c.args.g c.args.image.now _ _ _ next) c.in_ok-more.ensures,
    )

pub returns : goal.returns
returns c =
    filing_over c.loop-n.invariant.2 (left_over c.args.g c.args.image.now _ c.in-None.ensures.steps.0) (omega (arith, c.loop-n.invariant.1))
