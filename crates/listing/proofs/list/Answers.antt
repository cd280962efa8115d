-- `listing::list` meets its contract.
use Rattle.std.proofs.Common.{sym, ◌∙◌}
use Rattle.std.proofs.lemmas.Result.{err_from_is_err_and}
use Rattle.geometry.specs.Laws.{opened, geometry_wrong}
use Rattle.listing.specs.Answer.{after_size, after_on}
use Rattle.listing.proofs.list.Goals as goal

pub returns-in_err-g : goal.returns-in_err-g
returns-in_err-g c =
    let p = err_from_is_err_and c.from_residual.result c.from_residual.ensures.1 in
    rw (p.1, p.2) (after_size _ _ _ _ (geometry_wrong _ _ _ (sym c.in_err-g.ensures)))

pub list_on-requires : goal.list_on-requires
list_on-requires c = (opened _ _ _ (sym c.in_ok-g.ensures)).on_image

pub returns : goal.returns
returns c = c.list_on.ensures ∙ after_on c.args.image.now c.args.buffer.now (opened _ _ _ (sym c.in_ok-g.ensures))
