-- Sectors of zeros, into which the code of the blank disc writes.
-- Assumes nothing.
use Rattle.std.specs.Prelude.{◌≡◌, ℕ, ◌<◌, length, replicate}
use Rattle.format.specs.Geometry.{Disc, sector}
use Rattle.format.specs.Effects.{body}

-- every sector but 0/1 has zeros after its link
pub record Bare (d : Disc) : Type 0 where
  pub zeros : (n : ℕ) → 0 < n → n < length d → body (sector d n) ≡ replicate 254 0
