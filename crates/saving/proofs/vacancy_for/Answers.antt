-- `saving::vacancy_for` meets its contract.
use Rattle.std.proofs.Common.{rules, eqb-true, sym, ◌∙◌}
use Rattle.soundness.specs.WriteFacts.{savable}
use Rattle.saving.specs.Orders.{found_some, vacancy_taken, vacancy_room, vacancy_open}
use Rattle.saving.proofs.vacancy_for.Goals as goal

pub returns-then-is_some : goal.returns-then-is_some
returns-then-is_some c = vacancy_taken _ _ _ _ (found_some _ _ c.find.ensures.slot ∙ sym c.is_some.ensures ∙ c.if-is_some.true)

pub has_room-requires : goal.has_room-requires
has_room-requires c = (c.requires.0, c.open_slot-slot.ensures, (savable _ _ (eqb-true _ _ c.requires.1)).free_counted)

pub returns-then-not-has_room : goal.returns-then-not-has_room
returns-then-not-has_room c =
    vacancy_room _ _ _ _ (found_some _ _ c.find.ensures.slot ∙ sym c.is_some.ensures ∙ c.if-is_some.false) _ c.sectors_for.ensures
    (sym c.has_room.ensures ∙ c.if-not-has_room.true)

pub returns : goal.returns
returns c =
    let fresh = found_some _ _ c.find.ensures.slot ∙ sym c.is_some.ensures ∙ c.if-is_some.false in
    let vacant = vacancy_open _ _ _ _ fresh _ c.sectors_for.ensures (sym c.has_room.ensures ∙ c.if-not-has_room.false) in
    let found = c.open_slot-slot.ensures in
    search (rules, vacant, found.slot, found.within)
