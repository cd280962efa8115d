-- `directory::last_sector` meets its contract.
use Rattle.std.proofs.Common.{arith, ap, sym, ◌∙◌}
use Rattle.lists.specs.Lists.{last_or}
use Rattle.directory.specs.Laws.{loop_starts, loop_goes}
use Rattle.directory.proofs.last_sector.Goals as goal

pub loop-n-init : goal.loop-n-init
loop-n-init c =
    let start = loop_starts c.requires c.into_iter-n-iterator.ensures.into_iter_gives c.sectors-n-items.ensures.all in
    (start.0, omega arith, ap (last_or 0) (sym start.1))

pub loop-n-preserved : goal.loop-n-preserved
loop-n-preserved c =
    let next = c.in-Some.ensures.steps in
    let on = loop_goes c.args.g _ _ c.loop-n.invariant.0 next in
    (on.1, on.0, c.loop-n.invariant.2 ∙ ap (last_or c.loop-n.last.0) next)

pub returns : goal.returns
returns c = (sym (c.loop-n.invariant.2 ∙ ap (last_or c.loop-n.last.0) c.in-None.ensures.steps.0), c.loop-n.invariant.1)
