-- `modules::clear_from` meets its contract: zeros stored in the image lie in the sector that starts there.
use Rattle.std.proofs.Common.{arith, ℕ, ◌+◌, ◌-◌, ◌≡◌, ap, ap₂, ◌∙◌, replicate}
use lib.ListN.{length-replicate}
use lib.Seq.{sets}
use Rattle.geometry.specs.Laws.{each_once}
use Rattle.format.proofs.GeometryLaws.{sets_cut}
use Rattle.geometry.specs.Meaning.{geo, sectors_of, form}
use Rattle.modules.proofs.clear_from.Goals as goal

pub returns : goal.returns
returns c =
    let a = c.args in
    let many : c.start_of-start.result + 256 - (c.start_of-start.result + a.k) ≡ 256 - a.k = omega arith in
    let zeros = replicate {A = ℕ} (256 - a.k) 0 in
    ap (sectors_of a.g) c.fill.ensures
    ∙ ap₂ (λ (j n : ℕ). sectors_of a.g (sets a.image.now (j + a.k) (replicate n 0))) c.start_of-start.ensures.at many
    ∙ sets_cut (form a.g) (geo a.g) (each_once c.requires.0.valid) a.image.now a.n.0 a.k zeros (omega arith)
    (omega (arith, length-replicate {A = ℕ} (256 - a.k) 0))
