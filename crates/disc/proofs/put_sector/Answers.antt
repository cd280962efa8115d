-- `disc::put_sector` meets its contract: 256 bytes stored from offset 0 on are the whole sector.
use Rattle.std.proofs.Common.{◌≡◌, arith, length}
use Rattle.format.specs.Geometry.{sector}
use Rattle.format.proofs.GeometryLaws.{sector_full}
use Rattle.geometry.specs.Meaning.{sectors_of}
use Rattle.geometry.specs.Laws.{image_full}
use Rattle.lists.specs.Stores.{sets_whole}
use Rattle.disc.proofs.put_sector.Goals as goal

pub returns : goal.returns
returns c =
    let a = c.args in
    let old = sector (sectors_of a.g a.image.now) a.n.0 in
    let long : length old ≡ 256 = sector_full (image_full c.requires.0) a.n.0 (omega arith) in
    rw (sets_whole old a.from.now (omega arith)) at c.put.ensures
