-- `saving::save_name_on` meets its contract.
use Rattle.std.proofs.Common.{◌≡◌, Ok, Err, rules, sym, ◌∙◌, true}
use Rattle.std.proofs.lemmas.Result.{err_from_is_err_and}
use Rattle.format.specs.Names.{stored}
use Rattle.format.specs.Modules.{is_module, storable}
use Rattle.names.specs.Answer.{parsed, parsed_ok, parsed_legal}
use Rattle.saving.specs.Meaning.{handed}
use Rattle.saving.specs.Orders.{name_err, name_module, name_unsound, name_sound}
use Rattle.saving.proofs.save_name_on.Goals as goal
use Rattle.saving.proofs.save_name_on.Goals.{Else-not-is_module, In_ok-stored}

accepted : (c : In_ok-stored) → Ok c.in_ok-stored.stored ≡ parsed (stored c.args.name.now)
accepted c = search rules

storable_as : (c : Else-not-is_module) → storable (handed c.args.page c.args.start 0 c.args.sheet.now) ≡ true
unfolding storable is_module
storable_as c = sym c.is_module.ensures ∙ c.if-not-is_module.false

pub returns-in_err-stored : goal.returns-in_err-stored
returns-in_err-stored c =
    let p = err_from_is_err_and c.from_residual.result c.from_residual.ensures.1 in
    let named : Err c.in_err-stored.field-0.0 ≡ parsed (stored c.args.name.now) = search rules in
    rw (p.1, p.2) (name_err _ _ _ _ _ named)

pub returns-then-not-is_module : goal.returns-then-not-is_module
unfolding storable is_module
returns-then-not-is_module c =
    let name = accepted (goal.at.returns-then-not-is_module c).In_ok-stored in
    name_module _ _ _ _ _ (parsed_ok _ _ name) (sym c.is_module.ensures ∙ c.if-not-is_module.true)

pub returns-then-not-is_sound : goal.returns-then-not-is_sound
returns-then-not-is_sound c =
    let name = accepted (goal.at.returns-then-not-is_sound c).In_ok-stored in
    name_unsound _ _ _ _ _ (parsed_ok _ _ name) (storable_as (goal.at.returns-then-not-is_sound c).Else-not-is_module)
    (sym c.is_sound.ensures ∙ c.if-not-is_sound.true)

pub returns : goal.returns
returns c = (
  name_sound _ _ _ _ _ (parsed_ok _ _ (accepted (goal.at.returns c).In_ok-stored)) (storable_as (goal.at.returns c).Else-not-is_module)
      (sym c.is_sound.ensures ∙ c.if-not-is_sound.false),
  parsed_legal _ _ (accepted (goal.at.returns c).In_ok-stored),
)
