-- `blank::put_blank_system` meets its contract: four stores in the one sector.
use Rattle.std.proofs.Common.{arith, ◌<◌, ap, List, [], ◌∷◌, ℕ, length, get_or}
use Rattle.format.proofs.GeometryLaws.{length_cut}
use Rattle.geometry.specs.Meaning.{geo, sectors_of, form}
use Rattle.blank.specs.Laws.{system_stored}
use Rattle.blank.proofs.put_blank_system.Goals as goal

pub returns : goal.returns
returns c =
    let a = c.args in
    let G = geo a.g in
    let on : 0 < length (sectors_of a.g a.image.now) = omega (arith, length_cut (form a.g) G a.image.now) in
    let counts = ap (λ (free : List ℕ). get_or free 0 0 ∷ get_or free 1 0 ∷ 0 ∷ 0 ∷ []) c.word_bytes-free.ensures in
    rw (c.put_version.ensures, c.put-3.ensures, c.put-2.ensures, c.put.ensures)
    (system_stored G _ a.name.bytes _ _ a.g.sectors on c.requires.2 c.pointers-pairs.ensures counts c.requires.0.valid.total)
