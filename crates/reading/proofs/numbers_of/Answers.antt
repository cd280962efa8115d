-- `reading::numbers_of` meets its contract.
use Rattle.std.proofs.Common.{ap, Some}
use Rattle.format.specs.Geometry.{sector}
use Rattle.geometry.specs.Meaning.{sectors_of}
use Rattle.reading.specs.FileLaws.{numbered_read, numbers_read}
use Rattle.reading.proofs.numbers_of.Goals as goal

pub returns-then-not-numbers_ok : goal.returns-then-not-numbers_ok
returns-then-not-numbers_ok c =
    let s = sector (sectors_of c.args.g c.args.image.now) c.args.n.0 in
    rw (← numbered_read s c.byte_of-mark.ensures c.byte_of-page.ensures c.word_of-start.ensures c.word_of-end.ensures c.if-not-numbers_ok.ensures)

pub returns : goal.returns
returns c =
    let s = sector (sectors_of c.args.g c.args.image.now) c.args.n.0 in
    rw (← numbered_read s c.byte_of-mark.ensures c.byte_of-page.ensures c.word_of-start.ensures c.word_of-end.ensures c.if-not-numbers_ok.ensures)
    (ap Some (numbers_read s c.byte_of-page.ensures c.word_of-start.ensures c.word_of-end.ensures c.word_of.ensures c.saturating_sub-length.ensures))
