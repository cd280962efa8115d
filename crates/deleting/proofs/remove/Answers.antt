-- `deleting::remove` meets its contract.
use Rattle.std.proofs.Common.{arith, ◌∙◌}
use Rattle.format.specs.Layout.{empty_slot, slot_at}
use Rattle.geometry.specs.Meaning.{sectors_of}
use Rattle.geometry.specs.Laws.{image_kept}
use Rattle.link_laws.specs.Links.{case_else, not_other, found_sector, found_inside}
use Rattle.deleting.specs.Writes.{three_writes}
use Rattle.deleting.proofs.remove.Goals as goal

pub unreachable-requires : goal.unreachable-requires
unreachable-requires c =
    (not_other c.entry_of-entry.result.last (c.entry_of-entry.ensures.last_is ∙ c.requires.2.ends_at) (case_else _ c.in_default.not-To))

pub overflow_sub-in_use : goal.overflow_sub-in_use
unfolding slot_at
overflow_sub-in_use c = omega (arith, c.in_use_of-in_use.ensures, c.requires.2.in_use)

pub put_link-requires : goal.put_link-requires
put_link-requires c = (
  image_kept c.requires.0 c.put_slot.auto.image,
  found_inside c.args.g c.in-To.is c.entry_of-entry.ensures.last_inside,
  c.system_of-sys.ensures.inside,
)

pub put_system-requires : goal.put_system-requires
put_system-requires c = (image_kept c.requires.0 (c.put_link.auto.image ∙ c.put_slot.auto.image), c.entry_of-entry.ensures.first_inside)

pub returns : goal.returns
unfolding slot_at empty_slot
returns c =
    let g = c.args.g in
    let entry = c.entry_of-entry.ensures in
    let sys = c.system_of-sys.ensures in
    let last = found_sector c.in-To.is (entry.last_is ∙ c.requires.2.ends_at) in
    record {
      sectors_are =
          three_writes _ _ _ c.requires.2 (sectors_of g c.put_slot.new.image) (sectors_of g c.put_link.new.image) _
          (rw (← c.in_use_of-in_use.ensures) c.put_slot.ensures)
          (rw (← last, ← sys.leads) c.put_link.ensures)
          (rw (← entry.first_is, ← entry.length_is, ← sys.free_counted, ← sys.used_counted) c.put_system.ensures);
      last_is = last;
    }
