-- `reading::next_of` meets its contract.
use Rattle.std.proofs.Common.{◌≡◌, ap, ap₂, ◌∙◌, true}
use Rattle.format.specs.Geometry.{go, pointed, sector}
use Rattle.format.specs.Layout.{link_of}
use Rattle.geometry.specs.Meaning.{geo, sectors_of}
use Rattle.reading.specs.Meaning.{leads}
use Rattle.reading.specs.FileLaws.{leads_on_disc, leads_number}
use Rattle.reading.proofs.next_of.Goals as goal
use Rattle.reading.proofs.next_of.Goals.{After-byte_in-sector}

link : (c : After-byte_in-sector) → let a = c.args in
    pointed (geo a.g) c.byte_in-track.result c.byte_in-sector.result
    ≡ link_of (geo a.g) (sector (sectors_of a.g a.image.now) a.s.number.0)
link c = ap₂ (pointed (geo c.args.g)) c.byte_in-track.ensures c.byte_in-sector.ensures

link_leads : (c : After-byte_in-sector) → leads (pointed (geo c.args.g) c.byte_in-track.result c.byte_in-sector.result) ≡ true
link_leads c = ap leads (link c) ∙ c.requires.2

pub sector_at-requires : goal.sector_at-requires
sector_at-requires c = (c.requires.0.valid, leads_on_disc _ _ _ (link_leads c))

pub returns : goal.returns
returns c =
    let at = c.sector_at.ensures in
    (ap go at.0 ∙ leads_number (geo c.args.g) _ _ (link_leads (goal.at.returns c).After-byte_in-sector) ∙ link (goal.at.returns c).After-byte_in-sector, at.1)
