-- `saving_sectors::save_and_grow` meets its contract.
use Rattle.std.proofs.Common.{arith, ◌∙◌}
use Rattle.geometry.specs.Meaning.{sectors_of}
use Rattle.geometry.specs.Laws.{image_kept}
use Rattle.disc.specs.Laws.{inside}
use Rattle.modules.specs.Meaning.{module_of}
use Rattle.link_laws.specs.Links.{case_else, not_other, found_sector, found_inside}
use Rattle.saving_sectors.specs.Writes.{growth_none, counts_fit, new_file_leads, new_last, saved_grown}
use Rattle.saving_sectors.proofs.save_and_grow.Goals as goal

pub unreachable-requires : goal.unreachable-requires
unreachable-requires c =
    not_other c.put_file-file.result.next (new_file_leads c.requires.0 c.requires.1 c.put_file-file.ensures) (case_else _ c.in_default.not-To)

pub overflow_add-count : goal.overflow_add-count
overflow_add-count c = omega (arith, c.sectors_for-count.ensures, (counts_fit c.requires.0).1)

pub overflow_sub-free : goal.overflow_sub-free
overflow_sub-free c =
    omega (arith, c.sectors_for-count.ensures, (counts_fit c.requires.0).0, growth_none _ _ c.requires.1, c.system_of-sys.ensures.free_counted)

pub overflow_add-used : goal.overflow_add-used
overflow_add-used c = omega (arith, c.sectors_for-count.ensures, (counts_fit c.requires.0).1, c.system_of-sys.ensures.used_counted)

pub put_system-requires : goal.put_system-requires
put_system-requires c =
    let image = c.requires.0.image_of in
    (image_kept image (c.grow.auto.image ∙ c.put_file-file.auto.image), inside image.valid c.link_of-rest.result _ _ c.link_of-rest.ensures)

pub returns : goal.returns
returns c =
    let filed = c.put_file-file.ensures in
    let sys = c.system_of-sys.ensures in
    let last = c.last_sector-last.ensures in
    let a = c.args in
    let ready = c.requires.0 in
    let found = c.in-To.is in
    let is = found_sector found (new_file_leads ready c.requires.1 filed) in
    record {
      sectors_are =
          saved_grown _ _ _ (module_of a.m a.sheet.now) ready.savable ready.enough c.requires.1 _ is _ last.0 _ filed.entry_is
          (sectors_of a.g c.put_file-file.new.image) (sectors_of a.g c.grow.new.image) _ filed.sectors_are c.grow.ensures
          (rw (← c.link_of-rest.ensures, ← c.sectors_for-count.ensures, ← sys.free_counted, ← sys.used_counted) c.put_system.ensures);
      new_is = new_last _ _ a.name.bytes (module_of a.m a.sheet.now) ready.savable ready.enough c.requires.1 _ is;
      new_inside = found_inside a.g found filed.next_inside;
      last_is = last.0;
      last_inside = last.1;
    }
