-- `renaming::rename_on` meets its contract.
use Rattle.std.proofs.lemmas.Result.{err_from_is_err_and}
use Rattle.std.proofs.Common.{◌≡◌, Ok, Err, rules}
use Rattle.format.specs.Names.{stored}
use Rattle.names.specs.Answer.{parsed, parsed_ok, parsed_legal}
use Rattle.answers.specs.Listed.{refuses_lists, lists_as}
use Rattle.renaming.specs.Laws.{rename_err, rename_refused, rename_entry}
use Rattle.renaming.proofs.rename_on.Goals as goal
use Rattle.renaming.proofs.rename_on.Goals.{In_ok-name}

accepted : (c : In_ok-name) → Ok c.in_ok-name.name ≡ parsed (stored c.args.new.now)
accepted c = search rules

pub returns-in_err-name : goal.returns-in_err-name
returns-in_err-name c =
    let p = err_from_is_err_and c.from_residual.result c.from_residual.ensures.1 in
    let named : Err c.in_err-name.field-0.0 ≡ parsed (stored c.args.new.now) = search rules in
    rw (p.1, p.2) (refuses_lists _ _ _ _ _ (rename_err _ _ _ _ _ named))

pub returns-in_err-slot : goal.returns-in_err-slot
returns-in_err-slot c =
    let p = err_from_is_err_and c.from_residual-in_err-slot.result c.from_residual-in_err-slot.ensures.1 in
    let new = accepted (goal.at.returns-in_err-slot c).In_ok-name in
    rw (p.1, p.2) (refuses_lists _ _ _ _ _ (rename_refused _ _ _ _ _ (parsed_ok _ _ new) _ c.in_err-slot.ensures))

pub rename_entry-requires : goal.rename_entry-requires
rename_entry-requires c = (c.requires, c.in_ok-slot.ensures.1, parsed_legal _ _ (accepted (goal.at.rename_entry-requires c).In_ok-name))

pub returns : goal.returns
returns c = lists_as _ _ _ (rename_entry _ _ _ _ _ (parsed_ok _ _ (accepted (goal.at.returns c).In_ok-name)) _ c.in_ok-slot.ensures.0) c.rename_entry.ensures
