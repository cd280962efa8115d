-- `fsck::check` meets its contract.
use Rattle.std.proofs.Common.{sym}
use Rattle.std.proofs.lemmas.Result.{err_from_is_err_and}
use Rattle.geometry.specs.Laws.{opened, geometry_wrong}
use Rattle.fsck.specs.Answer.{after_refused, after_rule}
use Rattle.fsck.proofs.check.Goals as goal

pub returns-in_err-g : goal.returns-in_err-g
returns-in_err-g c =
    let p = err_from_is_err_and c.from_residual.result c.from_residual.ensures.1 in
    rw (p.1, p.2) (sym (after_refused _ c.args.image.now _ (geometry_wrong _ _ _ (sym c.in_err-g.ensures))))

pub lowest_broken-verdict-requires : goal.lowest_broken-verdict-requires
lowest_broken-verdict-requires c = (opened _ _ _ (sym c.in_ok-g.ensures)).on_image

pub returns : goal.returns
returns c = sym (after_rule (opened _ _ _ (sym c.in_ok-g.ensures)) _ (sym c.lowest_broken-verdict.ensures))
