-- `totals::check_sheet` meets its contract.
use Rattle.std.proofs.Common.{◌≡◌, length}
use Rattle.totals.specs.Totals.{credits_of}
use Rattle.totals.specs.Meaning.{sheet_check}
use Rattle.totals.proofs.check_sheet.Given as goal

abbrev pub invariant-loop-record : goal.invariant-loop-record
invariant-loop-record l = sheet_check (credits_of l.rest) ≡ sheet_check (credits_of l.sheet)

abbrev pub decreases-loop-record : goal.decreases-loop-record
decreases-loop-record l = length l.rest
