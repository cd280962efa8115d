-- `writes::put_write` meets its contract.
use Rattle.std.proofs.Common.{ℕ, ◌+◌, refl, ap, ◌∙◌}
use Rattle.geometry.specs.Meaning.{geo, sectors_of}
use Rattle.records.specs.Storing.{stored_as}
use Rattle.writes.specs.Laws.{whole_sector, record_long, record_of_write}
use Rattle.writes.proofs.put_write.Goals as goal

pub returns : goal.returns
returns c =
    let address = c.address_of-address.ensures in
    let a = c.args in
    let d = sectors_of a.g a.image.now in
    let bytes = whole_sector c.requires.0 a.s c.requires.1 (a.s.start + 256) refl in
    let stored = stored_as (record_of_write (geo a.g) d a.s.number.0 address.0 address.1 bytes) c.put_record.ensures in
    (stored, stored.position ∙ ap (λ (k : ℕ). a.at + k) (record_long c.requires.0 a.s.number.0 c.requires.1.on))
