-- What the code's sectors, links and steps mean in the definitions of the disc format.
-- Assumes nothing.
use Rattle.std.specs.Prelude.{◌≡◌, ℕ, ◌+◌, ◌*◌, ◌≤◌, ◌<◌, List, set}
use Rattle.std.proofs.lemmas.List.Edits.{sets}
use Rattle.format.specs.Geometry.{Next, stop, go, off, Disc, sector, start_of}
use Rattle.geometry.specs.declared.Geometry.{Geometry}
use Rattle.geometry.specs.declared.SectorNo.{SectorNo}
use Rattle.disc.specs.declared.Sector.{Sector}
use Rattle.disc.specs.declared.Link.{Link}
use Rattle.disc.specs.declared.Link.TheVariants.{End, To, Off}
use Rattle.geometry.specs.Meaning.{form, geo}

-- what a link of the code leads to
abbrev pub meaning : Link SectorNo → Next
meaning End = stop
meaning (To n) = go n.0
meaning Off = off

-- the sectors with bytes stored from offset k of sector n on
abbrev pub stored_at : Disc → ℕ → ℕ → List ℕ → Disc
stored_at d n k xs = set d n (sets (sector d n) k xs)

-- a link to a sector of the disc, or to none
abbrev pub Inside : Geometry → Link SectorNo → Type 0
Inside g End = Unit {0}
Inside g (To n) = n.0 < g.sectors
Inside g Off = Unit {0}

-- a sector of the disc, and where it starts
pub record Lies (g : Geometry) (s : Sector) : Type 0 where
  pub on : s.number.0 < g.sectors
  pub at : s.start ≡ start_of (form g) (geo g) s.number.0
  pub fits : s.start + 256 ≤ 256 * g.sectors

-- what a step of the code leads to
abbrev pub led : Link Sector → Next
led End = stop
led (To s) = go s.number.0
led Off = off

-- a step to a sector of the disc whose start is known, or to none
abbrev pub Reaches : Geometry → Link Sector → Type 0
Reaches g End = Unit {0}
Reaches g (To s) = Lies g s
Reaches g Off = Unit {0}
