-- What the laws of proofs/Arrangements.antt speak of.
-- Assumes nothing.
use Rattle.std.specs.Prelude.{suc}
use Rattle.lists.specs.Lists.{Once}
use Rattle.format.specs.Geometry.{Format, Geometry}

-- each of the sectors 1 to per_track once
abbrev pub Arranged : Format → Geometry → Type 0
Arranged F G = Once (suc G.per_track) F.arrangement
