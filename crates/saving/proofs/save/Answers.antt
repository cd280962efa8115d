-- `saving::save` meets its contract.
use Rattle.std.proofs.Common.{rules, sym, List}
use Rattle.std.proofs.lemmas.Result.{err_from_is_err_and}
use Rattle.format.specs.Refusals.{Try, Refusal}
use Rattle.format.specs.Geometry.{Geometry, Disc, Write}
use Rattle.format.specs.Calls.{save_on, after_save}
use Rattle.geometry.specs.Laws.{opened, geometry_wrong}
use Rattle.answers.specs.Listed.{listed_size, listed_leaves}
use Rattle.saving.specs.Meaning.{handed}
use Rattle.saving.proofs.save.Goals as goal
use Rattle.saving.proofs.save.Goals.{Start}

-- the call on sectors
abbrev called : Start → Geometry → Disc → Try Refusal (List Write)
called c G d = let a = c.args in save_on G d a.name.now (handed a.page a.start a.transfer a.sheet.now)

pub returns-in_err-g : goal.returns-in_err-g
unfolding after_save
returns-in_err-g c =
    let p = err_from_is_err_and c.from_residual.result c.from_residual.ensures.1 in
    let wrong = geometry_wrong _ _ _ (sym c.in_err-g.ensures) in
    rw (p.1, p.2) (listed_size _ c.args.image.now c.args.list.now (called (goal.at.returns-in_err-g c).Start) _ wrong)

pub save_on-requires : goal.save_on-requires
save_on-requires c = (opened _ _ _ (sym c.in_ok-g.ensures)).on_image

pub returns : goal.returns
unfolding after_save
returns c =
    let opens = opened _ _ _ (sym c.in_ok-g.ensures) in
    listed_leaves opens (called (goal.at.returns c).Start) _ c.args.list.now _ _ (search rules) c.save_on.ensures
