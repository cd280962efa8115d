-- `writes::put_deleted` meets its contract.
use Rattle.std.proofs.Common.{refl, [], ◌∷◌}
use Rattle.records.specs.Storing.{storing_all}
use Rattle.writes.specs.Laws.{copied_step, copied_end}
use Rattle.writes.proofs.put_deleted.Goals as goal

pub returns : goal.returns
returns c =
    let end = c.end_list.ensures in
    let a = c.args in
    let one = copied_step _ _ a.home.0 (a.last.0 ∷ 0 ∷ []) (storing_all _ 0 refl) c.put_numbered-one.ensures.0 in
    let two = copied_step _ _ a.last.0 (0 ∷ []) one c.put_numbered-two.ensures.0 in
    let three = copied_step _ _ 0 [] two c.put_numbered-three.ensures.0 in
    copied_end _ _ three end
