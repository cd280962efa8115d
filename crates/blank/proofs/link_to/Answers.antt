-- `blank::link_to` meets its contract.
use Rattle.std.proofs.Common.{arith, ℕ, ◌%◌, ap, ◌∙◌, [], ◌∷◌, set}
use Rattle.format.specs.Geometry.{Disc, sector, sector_number}
use Rattle.format.proofs.GeometryLaws.{sector_full}
use Rattle.format.specs.Layout.{link_offset}
use Rattle.geometry.specs.Meaning.{geo, sectors_of}
use Rattle.disc.specs.Meaning.{stored_at}
use Rattle.geometry.specs.Laws.{image_full}
use Rattle.blank.specs.Zeros.{link_stored}
use Rattle.blank.proofs.link_to.Goals as goal

pub stop_on-requires : goal.stop_on-requires
stop_on-requires c = (c.requires.0.valid, c.requires.1, c.requires.2)

pub returns : goal.returns
returns c =
    let a = c.args in
    let im = c.requires.0 in
    let d : Disc = sectors_of a.g a.image.now in
    let n : ℕ = sector_number (geo a.g) a.track (a.from % 256) in
    let long = sector_full (image_full im) n (omega (arith, c.stop_on.ensures.0, c.stop_on.ensures.1.on, im.valid.total)) in
    c.put_in.ensures
    ∙ ap (λ (m : ℕ). stored_at d m link_offset (a.to.track ∷ a.to.sector ∷ [])) c.stop_on.ensures.0
    ∙ ap (set d n) (link_stored (sector d n) _ _ (omega (arith, long)) c.requires.3)
