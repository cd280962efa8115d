-- `protecting::protect_on` meets its contract.
use Rattle.std.proofs.lemmas.Result.{err_from_is_err_and}
use Rattle.answers.specs.Listed.{refuses_lists, lists_as}
use Rattle.protecting.specs.Laws.{protect_refused, protect_done}
use Rattle.protecting.proofs.protect_on.Goals as goal

pub returns-in_err-slot : goal.returns-in_err-slot
returns-in_err-slot c =
    let p = err_from_is_err_and c.from_residual.result c.from_residual.ensures.1 in
    rw (p.1, p.2) (refuses_lists _ _ _ _ _ (protect_refused _ _ _ _ _ c.in_err-slot.ensures))

pub returns : goal.returns
returns c = lists_as _ _ _ (protect_done _ _ _ _ _ _ c.in_ok-slot.ensures.0 c.with_protection-attribute.ensures) c.put_listed.ensures
