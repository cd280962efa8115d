-- `saving_sectors::entry_bytes` meets its contract.
use Rattle.std.proofs.Common.{rules, ◌≡◌, refl, append_assoc, length}
use Rattle.saving_sectors.specs.Bytes.{two_parts}
use Rattle.saving_sectors.proofs.entry_bytes.Goals as goal

pub returns : goal.returns
returns c =
    let long : length c.args.name.bytes ≡ 9 = search rules in
    let from = c.address_of-from.ensures in
    let to = c.address_of-to.ensures in
    rw (c.copy_from_slice.ensures.after, c.copy_from_slice-2.ensures.after, two_parts 9 7 c.args.name.bytes _ _ long refl)
    (rw (c.word_bytes-counted.ensures, from.0, from.1, to.0, to.1) (simp append_assoc))
