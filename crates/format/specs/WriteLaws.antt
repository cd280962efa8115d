-- What the laws of proofs/WriteLaws.antt speak of.
-- Assumes nothing.
use Rattle.std.specs.Prelude.{◌≡◌, length}
use Prim.Native.Nat.{◌<◌}
use Rattle.format.specs.Geometry.{Geometry, sectors, Write}

-- a write of a whole sector of the disc
abbrev pub WholeOn : Geometry → Write → Type 0
WholeOn G w = (w.at < sectors G) × (length w.bytes ≡ 256)
