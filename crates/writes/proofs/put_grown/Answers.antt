-- `writes::put_grown` meets its contract.
use Rattle.std.proofs.Common.{[], ◌∷◌}
use Rattle.writes.specs.Meaning.{front_of}
use Rattle.writes.specs.Laws.{copied_step, copied_end, front_then}
use Rattle.writes.proofs.put_grown.Goals as goal

pub returns : goal.returns
returns c =
    let end = c.end_list.ensures in
    let a = c.args in
    let begun = front_then _ _ (front_of a.g a.image.now a.first a.count) (a.new.0 ∷ a.last.0 ∷ []) c.put_front-front.ensures.0 in
    let one = copied_step _ _ a.new.0 (a.last.0 ∷ []) begun c.put_numbered-one.ensures.0 in
    let two = copied_step _ _ a.last.0 [] one c.put_numbered-two.ensures.0 in
    copied_end _ _ two end
