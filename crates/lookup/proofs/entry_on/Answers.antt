-- `lookup::entry_on` meets its contract.
use Rattle.std.proofs.Common.{sym, subst}
use Rattle.std.proofs.lemmas.Result.{err_from_is_err_and}
use Rattle.answers.specs.Laws.{refuses_then}
use Rattle.lookup.specs.Meaning.{entry_on, Judges}
use Rattle.lookup.specs.Laws.{entry_slot}
use Rattle.lookup.proofs.entry_on.Goals as goal

pub returns-in_err-stored : goal.returns-in_err-stored
unfolding entry_on
returns-in_err-stored c =
    let p = err_from_is_err_and c.from_residual.result c.from_residual.ensures.1 in
    rw (p.1, p.2) (refuses_then _ _ _ c.in_err-stored.ensures)

pub returns : goal.returns
returns c =
    let a = c.args in
    subst (Judges a.g a.image.now c.slot_of.result) (sym (entry_slot _ _ _ _ c.in_ok-stored.ensures.0)) c.slot_of.ensures
