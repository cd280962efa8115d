-- `saving_sectors::put_file` meets its contract.
use Rattle.std.proofs.Common.{arith, sym, ◌∙◌, length}
use Rattle.format.proofs.ModuleLaws.{sectors_fit}
use Rattle.format.specs.Effects.{entry_bytes}
use Rattle.disc.specs.Laws.{inside}
use Rattle.saving_sectors.specs.Taking.{linked_head}
use Rattle.saving_sectors.specs.Writes.{file_linked}
use Rattle.saving_sectors.proofs.put_file.Goals as goal

pub entry_bytes-requires : goal.entry_bytes-requires
entry_bytes-requires c =
    let valid = c.requires.0.image_of.valid in
    (valid, inside valid c.args.pointer _ _ c.requires.2, c.put_module-taken.ensures.last_inside)

pub returns : goal.returns
unfolding entry_bytes
returns c =
    let put = c.put_module-taken.ensures in
    let file = file_linked c.requires.0 in
    let long = c.requires.1 ∙ sym file.1 in
    let head = linked_head _ file.0 (omega (arith, file.1, (sectors_fit (length c.args.sheet.now)).some_sector)) in
    record {
      sectors_are = put.sectors_are;
      entry_is = rw (head, ← c.requires.2, ← long, ← put.last_is) c.entry_bytes.ensures;
      next_is = put.next_is;
      next_inside = put.next_inside;
    }
