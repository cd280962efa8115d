-- `lookup::name_on` meets its contract.
use Rattle.std.proofs.Common.{sym, ◌∙◌}
use Rattle.std.proofs.lemmas.Result.{err_from_is_err_and}
use Rattle.names.specs.Answer.{parsed_ok, parsed_legal}
use Rattle.lookup.specs.Laws.{named_err, named_unsound, named_sound}
use Rattle.lookup.proofs.name_on.Goals as goal

pub returns-in_err-stored : goal.returns-in_err-stored
returns-in_err-stored c =
    let p = err_from_is_err_and c.from_residual.result c.from_residual.ensures.1 in
    rw (p.1, p.2) (named_err _ _ _ _ c.in_err-stored.ensures)

pub returns-then-not-is_sound : goal.returns-then-not-is_sound
returns-then-not-is_sound c =
    named_unsound _ _ _ _ (parsed_ok _ _ c.in_ok-stored.ensures) (sym c.is_sound.ensures ∙ c.if-not-is_sound.true)

pub returns : goal.returns
returns c = (
  named_sound _ _ _ _ (parsed_ok _ _ c.in_ok-stored.ensures) (sym c.is_sound.ensures ∙ c.if-not-is_sound.false),
  parsed_legal _ _ c.in_ok-stored.ensures,
)
