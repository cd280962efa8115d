-- `reading::first_header` meets its contract.
use Rattle.std.proofs.Common.{◌≡◌, sym, ap, ◌∙◌, Some}
use Rattle.format.specs.Geometry.{sector}
use Rattle.geometry.specs.Meaning.{sectors_of}
use Rattle.reading.specs.Plain.{headed}
use Rattle.reading.specs.Meaning.{body_of}
use Rattle.reading.specs.PlainLaws.{not_numbered, other_count}
use Rattle.reading.specs.FileLaws.{none_where, some_where, by_first_part}
use Rattle.reading.proofs.first_header.Goals as goal
use Rattle.reading.proofs.first_header.Goals.{After-filled_at}

-- what the test of the last part decides
by_last : (c : After-filled_at) → headed (body_of c.args.g c.args.image.now c.args.s.number.0) c.args.count ≡ c.filled_at.result
by_last c =
    let n = some_where _ _ c.in_ok-header.ensures in
    by_first_part (sector (sectors_of c.args.g c.args.image.now) c.args.s.number.0) c.args.count c.in_ok-header.header n.1 n.0
    (sym c.sectors_for.ensures ∙ c.if-sectors_for-count.false)
    ∙ sym c.filled_at.ensures

pub returns-in_err-header : goal.returns-in_err-header
returns-in_err-header c = rw (not_numbered _ c.args.count (none_where _ _ c.in_err-header.ensures)) c.from_residual.ensures

pub returns-then-sectors_for-count : goal.returns-then-sectors_for-count
returns-then-sectors_for-count c =
    let n = some_where _ _ c.in_ok-header.ensures in
    rw (other_count _ c.args.count n.0 (λ q. c.if-sectors_for-count.true (c.sectors_for.ensures ∙ rw n.1 q)))

pub returns-then-not-filled_at : goal.returns-then-not-filled_at
returns-then-not-filled_at c = rw (by_last (goal.at.returns-then-not-filled_at c).After-filled_at ∙ c.if-not-filled_at.true)

pub returns : goal.returns
returns c =
    rw (by_last (goal.at.returns c).After-filled_at ∙ c.if-not-filled_at.false) (ap Some (some_where _ _ c.in_ok-header.ensures).1)
