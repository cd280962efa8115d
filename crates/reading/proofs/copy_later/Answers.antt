-- `reading::copy_later` meets its contract.
use Rattle.std.proofs.Common.{arith}
use Rattle.format.proofs.GeometryLaws.{sector_full}
use Rattle.geometry.specs.Laws.{image_full}
use Rattle.reading.specs.CopyLaws.{copied_whole}
use Rattle.reading.proofs.copy_later.Goals as goal

pub returns-then-end-at-ge-LATER_ROOM : goal.returns-then-end-at-ge-LATER_ROOM
returns-then-end-at-ge-LATER_ROOM c =
    let im = c.requires.0 in
    let long = sector_full (image_full im) c.args.s.number.0 (omega (arith, c.requires.1.on, im.valid.total)) in
    copied_whole (omega (arith, long)) (omega (arith, c.if-end-at-ge-LATER_ROOM.true, c.requires.2)) c.copy_part.ensures
