-- `writes::put_saved` meets its contract.
use Rattle.std.proofs.Common.{[], ◌∷◌}
use Rattle.writes.specs.Meaning.{front_of}
use Rattle.writes.specs.Laws.{copied_step, copied_end, front_then}
use Rattle.writes.proofs.put_saved.Goals as goal

pub returns : goal.returns
returns c =
    let end = c.end_list.ensures in
    let a = c.args in
    let begun = front_then _ _ (front_of a.g a.image.now a.first a.count) (a.home.0 ∷ []) c.put_front-front.ensures.0 in
    let one = copied_step _ _ a.home.0 [] begun c.put_numbered-at.ensures.0 in
    copied_end _ _ one end
