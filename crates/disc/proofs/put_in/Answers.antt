-- `disc::put_in` meets its contract: bytes stored in the image lie in the sector that starts there.
use Rattle.std.proofs.Common.{arith, ℕ, ◌+◌, ap, ◌∙◌}
use lib.Seq.{sets}
use Rattle.format.proofs.GeometryLaws.{sets_cut}
use Rattle.geometry.specs.Meaning.{form, geo, sectors_of}
use Rattle.geometry.specs.Laws.{each_once}
use Rattle.disc.proofs.put_in.Goals as goal

pub returns : goal.returns
returns c =
    let a = c.args in
    let once = each_once c.requires.0.valid in
    ap (sectors_of a.g) c.copy.ensures
    ∙ ap (λ (j : ℕ). sectors_of a.g (sets a.image.now (j + a.k) a.from.now)) c.requires.1.at
    ∙ sets_cut (form a.g) (geo a.g) once a.image.now a.s.number.0 a.k a.from.now (omega arith) (omega arith)
