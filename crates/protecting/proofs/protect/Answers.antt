-- `protecting::protect` meets its contract.
use Rattle.std.proofs.Common.{rules, sym}
use Rattle.std.proofs.lemmas.Result.{err_from_is_err_and}
use Rattle.format.specs.Geometry.{Geometry, Disc}
use Rattle.format.specs.Calls.{protect_on, after_protect}
use Rattle.geometry.specs.Laws.{opened, geometry_wrong}
use Rattle.answers.specs.Listed.{listed_size, listed_leaves}
use Rattle.protecting.proofs.protect.Goals as goal

pub returns-in_err-g : goal.returns-in_err-g
unfolding after_protect
returns-in_err-g c =
    let a = c.args in
    let p = err_from_is_err_and c.from_residual.result c.from_residual.ensures.1 in
    let wrong = geometry_wrong _ _ _ (sym c.in_err-g.ensures) in
    rw (p.1, p.2) (listed_size _ a.image.now a.list.now (λ (G : Geometry) (d : Disc). protect_on G d a.name.now a.on) _ wrong)

pub protect_on-requires : goal.protect_on-requires
protect_on-requires c = (opened _ _ _ (sym c.in_ok-g.ensures)).on_image

pub returns : goal.returns
unfolding after_protect
returns c =
    let a = c.args in
    let opens = opened _ _ _ (sym c.in_ok-g.ensures) in
    listed_leaves opens (λ (G : Geometry) (d : Disc). protect_on G d a.name.now a.on) _ a.list.now _ _ (search rules) c.protect_on.ensures
