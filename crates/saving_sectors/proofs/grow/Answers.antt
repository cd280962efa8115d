-- `saving_sectors::grow` meets its contract.
use Rattle.std.proofs.Common.{rules, ◌≡◌, length}
use Rattle.geometry.specs.Meaning.{geo}
use Rattle.saving_sectors.specs.Bytes.{new_sector}
use Rattle.saving_sectors.proofs.grow.Goals as goal

pub returns : goal.returns
returns c =
    let a = c.args in
    let long : length a.entry.now ≡ 16 = search rules in
    rw (← new_sector (geo a.g) a.entry.now long, ← c.put_body.ensures) c.put_link.ensures
