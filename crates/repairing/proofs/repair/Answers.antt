-- `repairing::repair` meets its contract.
use Rattle.std.proofs.Common.{rules, sym}
use Rattle.std.proofs.lemmas.Result.{err_from_is_err_and}
use Rattle.format.specs.Calls.{repair_on, after_repair}
use Rattle.geometry.specs.Laws.{opened, geometry_wrong}
use Rattle.answers.specs.Laws.{changed_size, changed_leaves}
use Rattle.repairing.proofs.repair.Goals as goal

pub returns-in_err-g : goal.returns-in_err-g
unfolding after_repair
returns-in_err-g c =
    let p = err_from_is_err_and c.from_residual.result c.from_residual.ensures.1 in
    rw (p.1, p.2) (sym (changed_size _ c.args.image.now repair_on _ (geometry_wrong _ _ _ (sym c.in_err-g.ensures))))

pub repair_on-requires : goal.repair_on-requires
repair_on-requires c = (opened _ _ _ (sym c.in_ok-g.ensures)).on_image

pub returns : goal.returns
unfolding after_repair
returns c = changed_leaves (opened _ c.args.image.now _ (sym c.in_ok-g.ensures)) repair_on _ _ (search rules) c.repair_on.ensures
