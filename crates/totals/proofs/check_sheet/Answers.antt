-- `totals::check_sheet` meets its contract.
use Rattle.std.proofs.Common.{rules}
use Rattle.totals.proofs.Laws.{check_bad}
use Rattle.totals.proofs.check_sheet.Goals as goal

pub returns-in_err-read_record : goal.returns-in_err-read_record
returns-in_err-read_record c = search (rules, check_bad)
