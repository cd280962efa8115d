-- `modules::put_body` meets its contract: the four stores are the whole sector.
use Rattle.std.proofs.Common.{refl, arith}
use Rattle.geometry.specs.Laws.{image_full}
use Rattle.format.proofs.GeometryLaws.{sector_full}
use Rattle.format.specs.Layout.{link_bytes}
use Rattle.geometry.specs.Meaning.{geo, sectors_of}
use Rattle.disc.specs.Meaning.{meaning}
use Rattle.modules.specs.Laws.{four_puts}
use Rattle.modules.proofs.put_body.Goals as goal

pub returns : goal.returns
returns c =
    let a = c.args in
    let full = image_full c.requires.0 in
    four_puts (sectors_of a.g a.image.now) a.n.0 (omega (arith, c.requires, full.many))
    (link_bytes (geo a.g) (meaning a.next)) a.head.now a.part.now _ _ _ _
    (sector_full full a.n.0 (omega (arith, c.requires))) refl (omega (arith, c.requires))
    c.put_link.ensures c.put.ensures c.put-2.ensures c.clear_from.ensures
