-- `deleting::delete_on` meets its contract.
use Rattle.std.proofs.Common.{eqb-true, sym, ◌∙◌}
use Rattle.std.proofs.lemmas.Result.{err_from_is_err_and}
use Rattle.soundness.specs.WriteFacts.{removable}
use Rattle.answers.specs.Listed.{refuses_lists, lists_as}
use Rattle.lookup.specs.Laws.{entry_ok}
use Rattle.deleting.specs.Laws.{delete_refused, delete_protected, delete_done}
use Rattle.deleting.proofs.delete_on.Goals as goal

pub returns-in_err-slot : goal.returns-in_err-slot
returns-in_err-slot c =
    let p = err_from_is_err_and c.from_residual.result c.from_residual.ensures.1 in
    rw (p.1, p.2) (refuses_lists _ _ _ _ _ (delete_refused _ _ _ _ c.in_err-slot.ensures))

pub returns-then-is_protected : goal.returns-then-is_protected
returns-then-is_protected c =
    refuses_lists _ _ _ _ _ (delete_protected _ _ _ _ c.in_ok-slot.ensures.0 (sym c.is_protected.ensures ∙ c.if-is_protected.true))

pub delete_entry-requires : goal.delete_entry-requires
delete_entry-requires c =
    let entry = entry_ok _ _ _ _ c.in_ok-slot.ensures.0 in
    (c.requires, c.in_ok-slot.ensures.1, removable _ _ entry.nine _ (eqb-true _ _ entry.checked) entry.found)

pub returns : goal.returns
returns c =
    let plain = sym c.is_protected.ensures ∙ c.if-is_protected.false in
    lists_as _ _ _ (delete_done _ _ _ _ c.in_ok-slot.ensures.0 plain) c.delete_entry.ensures
