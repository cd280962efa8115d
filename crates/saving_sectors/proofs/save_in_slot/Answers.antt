-- `saving_sectors::save_in_slot` meets its contract.
use Rattle.std.proofs.Common.{arith}
use Rattle.format.specs.Layout.{slot_at}
use Rattle.geometry.specs.Meaning.{sectors_of}
use Rattle.modules.specs.Meaning.{module_of}
use Rattle.saving_sectors.specs.Writes.{counts_fit, saved_in_slot}
use Rattle.saving_sectors.proofs.save_in_slot.Goals as goal

pub overflow_add-in_use : goal.overflow_add-in_use
unfolding slot_at
overflow_add-in_use c = omega (arith, c.in_use_of-in_use.ensures, c.requires.0.savable.open_count _ c.requires.1)

pub overflow_sub-free : goal.overflow_sub-free
overflow_sub-free c = omega (arith, c.sectors_for-count.ensures, (counts_fit c.requires.0).0, c.system_of-sys.ensures.free_counted)

pub overflow_add-used : goal.overflow_add-used
overflow_add-used c = omega (arith, c.sectors_for-count.ensures, (counts_fit c.requires.0).1, c.system_of-sys.ensures.used_counted)

pub returns : goal.returns
unfolding slot_at
returns c =
    let sys = c.system_of-sys.ensures in
    let file = c.put_file-file.ensures in
    let a = c.args in
    saved_in_slot _ _ _ (module_of a.m a.sheet.now) c.requires.0.savable c.requires.0.enough _ c.requires.1
    _ file.entry_is (sectors_of a.g c.put_file-file.new.image) (sectors_of a.g c.put_slot.new.image) _ file.sectors_are
    (rw (← c.in_use_of-in_use.ensures) c.put_slot.ensures)
    (rw (← file.next_is, ← c.sectors_for-count.ensures, ← sys.free_counted, ← sys.used_counted) c.put_system.ensures)
