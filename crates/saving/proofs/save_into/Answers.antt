-- `saving::save_into` meets its contract.
use Rattle.std.proofs.Common.{arith, eqb-true, ◌≡◌, refl, ◌+◌, ◌<◌, ◌≤◌, length, ap, ◌∙◌, subst, cond, is_some}
use Rattle.std.specs.declared.option.Option.{Option}
use Rattle.format.specs.Layout.{slot_at, open_slot}
use Rattle.format.specs.Writes.{list_size}
use Rattle.soundness.specs.WriteFacts.{savable}
use Rattle.geometry.specs.Meaning.{geo, sectors_of}
use Rattle.geometry.specs.Laws.{image_kept}
use Rattle.modules.specs.Meaning.{module_of}
use Rattle.slots.specs.declared.slot_no.SlotNo.{SlotNo}
use Rattle.directory.specs.Meaning.{found_of, Within}
use Rattle.answers.specs.Listed.{lists_as}
use Rattle.saving_sectors.specs.Meaning.{Ready}
use Rattle.saving.specs.Orders.{vacancy_ok, save_ok}
use Rattle.saving.specs.Listing.{save_short, walks, open_listed, grown_listed}
use Rattle.saving.proofs.save_into.Goals as goal
use Rattle.saving.proofs.save_into.Goals.{Start, Else-list-list_size}

-- what was judged
ready : (c : Start) → Ready c.args.g c.args.image.now (module_of c.args.m c.args.sheet.now)
ready c =
    record {
      image_of = c.requires.0;
      savable = savable _ _ (eqb-true _ _ c.requires.1);
      is_module = c.requires.2;
      enough = (vacancy_ok _ _ _ _ _ c.requires.3.0).0;
    }

-- where the entry goes
slot_is : (c : Start) {to : Option SlotNo} → c.args.to ≡ to → let d = sectors_of c.args.g c.args.image.now in
    (open_slot (geo c.args.g) d ≡ found_of d to) × Within (λ n. n < c.args.g.sectors) to
slot_is c e =
    ((vacancy_ok _ _ _ _ _ c.requires.3.0).1 ∙ ap (found_of _) e, subst (Within (λ n. n < c.args.g.sectors)) e c.requires.3.1)

-- the lent list has room
room : (c : Else-list-list_size) {to : Option SlotNo} → c.args.to ≡ to
    → list_size (c.sectors_for-count.result + cond (is_some to) 2 3) ≤ length c.args.list.now
room c e = rw (← e) (omega (arith, c.if-list-list_size.false, c.list_size.ensures, c.write_count.ensures))

pub returns-then-list-list_size : goal.returns-then-list-list_size
returns-then-list-list_size c =
    let a = c.args in
    let start = (goal.at.returns-then-list-list_size c).Start in
    lists_as a.g a.image.now a.list.now (save_ok _ _ _ _ _ c.requires.3.0)
    (save_short a.name.bytes _ (ready start) a.list.now a.to (slot_is start refl).0
    (omega (arith, c.if-list-list_size.true, c.list_size.ensures, c.write_count.ensures, c.sectors_for-count.ensures)))

pub save_in_slot-requires : goal.save_in_slot-requires
save_in_slot-requires c =
    let start = (goal.at.save_in_slot-requires c).Start in
    let slot = slot_is start c.in-Some.is in
    (ready start, slot.0, slot.1)

pub put_saved-requires : goal.put_saved-requires
put_saved-requires c =
    let start = (goal.at.put_saved-requires c).Start in
    let first = c.system_of-first.ensures in (
      image_kept c.requires.0 c.save_in_slot.auto.image,
      walks c.args.name.bytes _ (ready start) _ c.save_in_slot.ensures c.system_of-first.result.pointer first.leads _ c.sectors_for-count.ensures first.inside,
      (slot_is start c.in-Some.is).1,
      room (goal.at.put_saved-requires c).Else-list-list_size c.in-Some.is,
    )

pub save_and_grow-grown-requires : goal.save_and_grow-grown-requires
save_and_grow-grown-requires c =
    let start = (goal.at.save_and_grow-grown-requires c).Start in
    (ready start, (slot_is start c.in-None.is).0)

pub put_grown-requires : goal.put_grown-requires
put_grown-requires c =
    let first = c.system_of-first.ensures in
    let grown = c.save_and_grow-grown.ensures in (
      image_kept c.requires.0 c.save_and_grow-grown.auto.image,
      walks c.args.name.bytes _ (ready (goal.at.put_grown-requires c).Start) _ grown.sectors_are c.system_of-first.result.pointer first.leads _
          c.sectors_for-count.ensures first.inside,
      grown.new_inside,
      grown.last_inside,
      room (goal.at.put_grown-requires c).Else-list-list_size c.in-None.is,
    )

pub returns-in-Some : goal.returns-in-Some
unfolding slot_at
returns-in-Some c =
    let a = c.args in
    let start = (goal.at.returns-in-Some c).Start in
    lists_as a.g a.image.now a.list.now (save_ok _ _ _ _ _ c.requires.3.0)
    (open_listed a.name.bytes _ (ready start) _ c.save_in_slot.ensures c.system_of-first.result.pointer c.system_of-first.ensures.leads _
    c.sectors_for-count.ensures a.list.now _ (slot_is start c.in-Some.is).0
    (room (goal.at.returns-in-Some c).Else-list-list_size c.in-Some.is) c.put_saved.ensures)

pub returns-in-None : goal.returns-in-None
returns-in-None c =
    let a = c.args in
    let start = (goal.at.returns-in-None c).Start in
    let grown = c.save_and_grow-grown.ensures in
    lists_as a.g a.image.now a.list.now (save_ok _ _ _ _ _ c.requires.3.0)
    (grown_listed a.name.bytes _ (ready start) _ grown.sectors_are c.system_of-first.result.pointer c.system_of-first.ensures.leads _
    c.sectors_for-count.ensures a.list.now (slot_is start c.in-None.is).0 grown.new_is grown.last_is
    (room (goal.at.returns-in-None c).Else-list-list_size c.in-None.is) c.put_grown.ensures)
