-- `replaying::replay` meets its contract.
use Rattle.std.proofs.Common.{rules, sym}
use Rattle.std.proofs.lemmas.Result.{err_from_is_err_and}
use Rattle.format.specs.Geometry.{Geometry, Disc}
use Rattle.format.specs.Calls.{replay_on, after_replay}
use Rattle.geometry.specs.Laws.{opened, geometry_wrong}
use Rattle.answers.specs.Laws.{changed_size, changed_leaves}
use Rattle.replaying.proofs.replay.Goals as goal

pub returns-in_err-g : goal.returns-in_err-g
unfolding after_replay
returns-in_err-g c =
    let a = c.args in
    let p = err_from_is_err_and c.from_residual.result c.from_residual.ensures.1 in
    rw (p.1, p.2)
    (sym (changed_size _ a.image.now (λ (G : Geometry) (d : Disc). replay_on G d a.list.now) _ (geometry_wrong _ _ _ (sym c.in_err-g.ensures))))

pub replay_on-requires : goal.replay_on-requires
replay_on-requires c = (opened _ _ _ (sym c.in_ok-g.ensures)).on_image

pub returns : goal.returns
unfolding after_replay
returns c =
    let a = c.args in
    let o = opened _ a.image.now _ (sym c.in_ok-g.ensures) in
    changed_leaves o (λ (G : Geometry) (d : Disc). replay_on G d a.list.now) _ _ (search rules) c.replay_on.ensures
