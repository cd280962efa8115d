-- `reading::read_on` meets its contract.
use Rattle.std.proofs.Common.{eqb-true, sym, ap, ◌∙◌, length}
use Rattle.std.proofs.lemmas.Result.{err_from_is_err_and}
use Rattle.format.specs.Calls.{read_answer_by}
use Rattle.soundness.specs.Laid.{sound_laid}
use Rattle.soundness.specs.Found.{found}
use Rattle.lookup.specs.Laws.{entry_ok}
use Rattle.reading.specs.AnswerLaws.{refuses_answer, read_refused, read_entry}
use Rattle.reading.proofs.read_on.Goals as goal

pub returns-in_err-slot : goal.returns-in_err-slot
returns-in_err-slot c =
    let p = err_from_is_err_and c.from_residual.result c.from_residual.ensures.1 in
    rw (p.1, p.2) (refuses_answer c.args.buffer.now _ _ (read_refused _ _ _ (length c.args.buffer.now) _ c.in_err-slot.ensures))

pub read_file-requires : goal.read_file-requires
read_file-requires c =
    let entry = entry_ok _ _ _ _ c.in_ok-slot.ensures.0 in
    let file = found (sound_laid _ _ (eqb-true _ _ entry.checked)).filed entry.found in
    (c.requires, c.in_ok-slot.ensures.1, file.file, file.good.some_sector)

pub returns : goal.returns
returns c =
    let b = c.args.buffer.now in
    c.read_file.ensures ∙ sym (ap (read_answer_by b) (read_entry _ _ _ (length b) _ c.in_ok-slot.ensures.0))
