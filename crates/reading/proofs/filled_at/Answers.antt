-- `reading::filled_at` meets its contract.
use Rattle.std.proofs.Common.{◌≡◌, sym, ◌∙◌, arith, length}
use Rattle.geometry.specs.Laws.{image_full}
use Rattle.format.specs.Geometry.{sector}
use Rattle.format.proofs.GeometryLaws.{sector_full}
use Rattle.geometry.specs.Meaning.{sectors_of}
use Rattle.reading.specs.SectorLaws.{filled_yes, filled_no}
use Rattle.reading.proofs.filled_at.Goals as goal
use Rattle.reading.proofs.filled_at.Goals.{Start}

long : (c : Start) → length (sector (sectors_of c.args.g c.args.image.now) c.args.s.number.0) ≡ 256
long c = sector_full (image_full c.requires.0) c.args.s.number.0 (omega arith)

pub returns-then-byte_in-size : goal.returns-then-byte_in-size
returns-then-byte_in-size c =
    sym (filled_no _ c.args.k c.args.left c.min-size.result (long (goal.at.returns-then-byte_in-size c).Start) c.requires.2 c.min-size.ensures
    (λ e. c.if-byte_in-size.true (c.byte_in.ensures ∙ e)))

pub returns : goal.returns
returns c =
    let same = sym c.byte_in.ensures ∙ c.if-byte_in-size.false in
    c.zero_from.ensures
    ∙ sym (filled_yes _ c.args.k c.args.left c.min-size.result (long (goal.at.returns c).Start) c.requires.2 c.min-size.ensures same)
