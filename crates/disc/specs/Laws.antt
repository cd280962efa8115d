-- Laws of Meaning: sectors that lie where they start, what links and steps lead to.
-- Assumes nothing.
use Rattle.std.specs.Prelude.{◌≡◌, ℕ, ◌<◌}
use Rattle.std.proofs.Common.{sym, subst, arith}
use Rattle.format.specs.Geometry.{pointed}
use Rattle.format.specs.GeometryLaws.{OnDisc}
use Rattle.format.proofs.GeometryLaws.{pointed_on}
use Rattle.geometry.specs.Meaning.{geo, Valid, Starts}
use Rattle.disc.specs.Meaning.{meaning, Inside, Lies, Reaches}
use Rattle.geometry.specs.declared.Geometry.{Geometry}
use Rattle.geometry.specs.declared.SectorNo.{SectorNo}
use Rattle.disc.specs.declared.Sector.{Sector}
use Rattle.disc.specs.declared.Link.{Link}
use Rattle.disc.specs.declared.Link.TheVariants.{End, To, Off}

-- a sector, and where it starts
pub lies : {g : Geometry} (s : Sector) → s.number.0 < g.sectors → Starts g s.number.0 s.start → Lies g s
lies s on h = record { on = on; at = h.at; fits = h.fits }

pub lies_starts : {g : Geometry} {s : Sector} → Lies g s → Starts g s.number.0 s.start
lies_starts l = record { at = l.at; fits = l.fits }

-- ---- links and steps

-- what a track and a sector byte lead to is on the disc
pub inside : {g : Geometry} → Valid g → (l : Link SectorNo) (t s : ℕ) → meaning l ≡ pointed (geo g) t s → Inside g l
unfolding OnDisc
inside v End t s e = tt
inside {g} v (To n) t s e = omega (arith, pointed_on (geo g) t s n.0 (sym e))
inside v Off t s e = tt

-- the sector that a step leads to
pub reached : (g : Geometry) {r : Link Sector} {s : Sector} → r ≡ To s → Reaches g r → Lies g s
reached g e h = subst (Reaches g) e h
