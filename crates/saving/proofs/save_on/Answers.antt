-- `saving::save_on` meets its contract.
use Rattle.std.proofs.Common.{arith}
use Rattle.std.proofs.lemmas.Result.{err_from_is_err_and}
use Rattle.format.specs.ModuleLaws.{IsModule}
use Rattle.format.proofs.ModuleLaws.{module_true, storable_module}
use Rattle.answers.specs.Listed.{refuses_lists, lists_as}
use Rattle.saving.specs.Meaning.{handed}
use Rattle.saving.specs.Orders.{name_ok, save_refused, save_named}
use Rattle.saving.proofs.save_on.Goals as goal
use Rattle.saving.proofs.save_on.Goals.{In_ok-stored}

is_module : (c : In_ok-stored) → IsModule (handed c.args.page c.args.start 0 c.args.sheet.now)
is_module c = module_true _ (storable_module _ (name_ok _ _ _ _ _ c.in_ok-stored.ensures.0).0)

pub returns-in_err-stored : goal.returns-in_err-stored
returns-in_err-stored c =
    let a = c.args in
    let p = err_from_is_err_and c.from_residual.result c.from_residual.ensures.1 in
    rw (p.1, p.2) (refuses_lists _ _ _ _ _ (save_refused _ _ _ a.page a.start a.transfer a.sheet.now _ c.in_err-stored.ensures))

pub overflow_cast-m : goal.overflow_cast-m
overflow_cast-m c = omega (arith, (is_module c).pages)

pub vacancy_for-to-requires : goal.vacancy_for-to-requires
vacancy_for-to-requires c =
    let named = c.in_ok-stored.ensures in
    (c.requires, (name_ok _ _ _ _ _ named.0).1, named.1, omega (arith, (is_module c).within))

pub put_save-requires : goal.put_save-requires
put_save-requires c =
    let m = is_module (goal.at.put_save-requires c).In_ok-stored in (
      c.requires,
      (name_ok _ _ _ _ _ c.in_ok-stored.ensures.0).1,
      record { pages = m.pages; some_byte = m.some_byte; within = m.within },
      c.vacancy_for-to.ensures,
    )

pub returns : goal.returns
returns c =
    let a = c.args in
    lists_as a.g a.image.now a.list.now (save_named _ _ _ a.page a.start a.transfer a.sheet.now _ c.in_ok-stored.ensures.0) c.put_save.ensures
