-- What the laws of proofs/WholeWrites.antt speak of.
-- Assumes nothing.
use Rattle.std.specs.Prelude.{◌≡◌, ◌<◌, length}
use Rattle.format.specs.Geometry.{Geometry, sectors, Write}

-- a write of a whole sector, if it is one of the disc
abbrev pub Whole : Geometry → Write → Type 0
Whole G w = w.at < sectors G → length w.bytes ≡ 256
