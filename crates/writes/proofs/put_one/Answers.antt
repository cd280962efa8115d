-- `writes::put_one` meets its contract.
use Rattle.std.proofs.Common.{refl, []}
use Rattle.records.specs.Storing.{storing_all}
use Rattle.writes.specs.Laws.{copied_step, copied_end}
use Rattle.writes.proofs.put_one.Goals as goal

pub returns : goal.returns
returns c =
    let end = c.end_list.ensures in
    let a = c.args in
    let one = copied_step _ _ a.n.0 [] (storing_all _ 0 refl) c.put_numbered-at.ensures.0 in
    copied_end _ _ one end
