-- `reading::plain_header` meets its contract: one law for each answer.
use Rattle.std.proofs.Common.{◌≡◌, sym, ◌∙◌, cond, arith, Some, None}
use Rattle.format.specs.Modules.{plain}
use Rattle.reading.specs.Meaning.{header_of, file_bodies}
use Rattle.reading.specs.FileLaws.{none_where, some_where, first_refused, by_later_sectors}
use Rattle.reading.proofs.plain_header.Goals as goal
use Rattle.reading.proofs.plain_header.Goals.{After-later_filled}

-- what the test of the later sectors decides
by_later : (c : After-later_filled) → let a = c.args in
    header_of (plain (file_bodies a.g a.image.now a.first.number.0 a.count))
    ≡ cond c.later_filled.result (Some c.in_ok-header.header) None
by_later c =
    let numbers = some_where _ _ c.in_ok-header.ensures in
    rw c.later_filled.ensures (by_later_sectors c.requires.0 (λ i. omega (arith, c.type_inv.image i)) c.in_ok-header.header numbers.0 numbers.1)

pub returns-in_err-header : goal.returns-in_err-header
returns-in_err-header c =
    let no = none_where _ _ c.in_err-header.ensures in
    c.from_residual.ensures ∙ sym (first_refused c.requires.0 (λ i. omega (arith, c.type_inv.image i)) no)

pub returns-then-not-later_filled : goal.returns-then-not-later_filled
returns-then-not-later_filled c = sym (by_later (goal.at.returns-then-not-later_filled c).After-later_filled ∙ rw c.if-not-later_filled.true)

pub returns : goal.returns
returns c = sym (by_later (goal.at.returns c).After-later_filled ∙ rw c.if-not-later_filled.false)
