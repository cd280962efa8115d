-- `writes::put_numbered` meets its contract.
use Rattle.std.proofs.Common.{ℕ, ap}
use Rattle.format.specs.Writes.{record_of}
use Rattle.soundness.specs.CopiedOut.{standing}
use Rattle.geometry.specs.Meaning.{geo, sectors_of}
use Rattle.records.specs.Storing.{stored_as}
use Rattle.writes.proofs.put_numbered.Goals as goal

pub returns : goal.returns
returns c =
    let a = c.args in
    let is = ap (λ (n : ℕ). record_of (geo a.g) (standing (sectors_of a.g a.image.now) n)) c.sector_of.ensures.0 in
    (stored_as is c.put_write.ensures.0, c.put_write.ensures.1)
