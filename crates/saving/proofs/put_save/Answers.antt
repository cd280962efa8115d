-- `saving::put_save` meets its contract.
use Rattle.std.proofs.Common.{length, subst}
use Rattle.std.proofs.lemmas.Result.{err_from_is_err_and}
use Rattle.geometry.specs.Meaning.{geo, sectors_of}
use Rattle.answers.specs.Listed.{refuses_lists}
use Rattle.saving.specs.Meaning.{vacancy_on, Offers}
use Rattle.saving.specs.Orders.{save_kept_out}
use Rattle.saving.proofs.put_save.Goals as goal

pub returns-in_err-vacancy : goal.returns-in_err-vacancy
returns-in_err-vacancy c =
    let a = c.args in
    let vacancy = vacancy_on (geo a.g) (sectors_of a.g a.image.now) a.name.bytes (length a.sheet.now) in
    let kept_out = subst (λ r. Offers a.g a.image.now r vacancy) c.in_err-vacancy.was c.requires.3 in
    let p = err_from_is_err_and c.from_residual.result c.from_residual.ensures.1 in
    rw (p.1, p.2) (refuses_lists _ _ _ _ _ (save_kept_out _ _ _ _ _ kept_out))

pub save_into-requires : goal.save_into-requires
save_into-requires c =
    let a = c.args in
    let vacancy = vacancy_on (geo a.g) (sectors_of a.g a.image.now) a.name.bytes (length a.sheet.now) in
    (c.requires.0, c.requires.1, c.requires.2, subst (λ r. Offers a.g a.image.now r vacancy) c.in_ok-vacancy.was c.requires.3)
