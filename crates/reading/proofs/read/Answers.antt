-- `reading::read` meets its contract.
use Rattle.std.proofs.Common.{sym, ◌∙◌}
use Rattle.std.proofs.lemmas.Result.{err_from_is_err_and}
use Rattle.geometry.specs.Laws.{opened, geometry_wrong}
use Rattle.reading.specs.AnswerLaws.{read_size, read_image}
use Rattle.reading.proofs.read.Goals as goal

pub returns-in_err-g : goal.returns-in_err-g
returns-in_err-g c =
    let p = err_from_is_err_and c.from_residual.result c.from_residual.ensures.1 in
    rw (p.1, p.2) (read_size _ _ _ _ _ (geometry_wrong _ _ _ (sym c.in_err-g.ensures)))

pub read_on-requires : goal.read_on-requires
read_on-requires c = (opened _ _ _ (sym c.in_ok-g.ensures)).on_image

pub returns : goal.returns
returns c = c.read_on.ensures ∙ read_image c.args.image.now c.args.name.now c.args.buffer.now (opened _ _ _ (sym c.in_ok-g.ensures))
