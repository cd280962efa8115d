-- `blank::blank` meets its contract.
use Rattle.std.proofs.Common.{◌≡◌, Ok, Err, rules, sym, ap, ◌∙◌}
use Rattle.std.proofs.lemmas.Result.{err_from_is_err_and}
use Rattle.format.specs.Names.{disc_name}
use Rattle.format.specs.Calls.{answered}
use Rattle.geometry.specs.Meaning.{kind_of, form, geo}
use Rattle.geometry.specs.Laws.{Opened, opened, image_is, geometry_wrong}
use Rattle.names.specs.Answer.{parsed, parsed_err, parsed_name, parsed_ok}
use Rattle.blank.specs.Laws.{blank_size, blank_name, blank_done}
use Rattle.blank.proofs.blank.Goals as goal
use Rattle.blank.proofs.blank.Goals.{In_ok-g, In_ok-stored}

opening : (c : In_ok-g) → let a = c.args in Opened (kind_of a.stated) c.in_ok-g.g a.image.now
opening c = opened _ _ _ (sym c.in_ok-g.ensures)

accepted : (c : In_ok-stored) → Ok c.in_ok-stored.stored ≡ parsed (disc_name c.args.name.now)
accepted c = search rules

pub returns-in_err-g : goal.returns-in_err-g
returns-in_err-g c =
    let a = c.args in
    let p = err_from_is_err_and c.from_residual.result c.from_residual.ensures.1 in
    rw (p.1, p.2) (sym (blank_size _ a.image.now a.name.now _ (geometry_wrong _ _ _ (sym c.in_err-g.ensures))))

pub returns-in_err-stored : goal.returns-in_err-stored
returns-in_err-stored c =
    let a = c.args in
    let o = opening (goal.at.returns-in_err-stored c).In_ok-g in
    let p = err_from_is_err_and c.from_residual-in_err-stored.result c.from_residual-in_err-stored.ensures.1 in
    let named : Err c.in_err-stored.field-0.0 ≡ parsed (disc_name a.name.now) = search rules in
    rw (p.1, p.2, parsed_name _ _ named, o.kind_is) (sym (blank_name _ a.image.now a.name.now _ o.geometry_is (parsed_err _ _ named)))

pub blank_on-requires : goal.blank_on-requires
blank_on-requires c = (opening (goal.at.blank_on-requires c).In_ok-g).on_image

pub returns : goal.returns
returns c =
    let a = c.args in
    let g = c.in_ok-g.g in
    let o = opening (goal.at.returns c).In_ok-g in
    rw o.kind_is
    (ap (answered 0) (image_is o.on_image _ (search rules) c.blank_on.ensures)
    ∙ sym (blank_done (form g) a.image.now a.name.now (geo g) o.geometry_is _ (parsed_ok _ _ (accepted (goal.at.returns c).In_ok-stored))))
