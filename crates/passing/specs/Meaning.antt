-- What the code of the passing order goes by: the stops of a track, and the sector at a position of the order.
-- Assumes nothing.
use Rattle.std.specs.Prelude.{◌≡◌, ℕ, ◌+◌, ◌*◌, ◌≤◌, ◌<◌, List, length, get_or, drop}
use Rattle.format.specs.Layout.{track_byte, sector_byte}
use Rattle.format.specs.Effects.{head_of, passing}
use Rattle.geometry.specs.Meaning.{geo, place_in}
use Rattle.geometry.specs.declared.Geometry.{Geometry}
use Rattle.disc.specs.declared.Address.{Address}

-- sector s of a track, and its place there
pub record Stop (g : Geometry) (s r : ℕ) : Type 0 where
  pub on_track : (1 ≤ s) × (s ≤ (geo g).per_track)
  pub at : r ≡ 256 * place_in g.arrangement s + s

-- the sectors of a track in the order in which the chain of a blank disc passes them
pub record Stops (g : Geometry) (xs : List ℕ) : Type 0 where
  pub long : length xs ≡ 10
  pub at : (i : ℕ) → i < (geo g).per_track → Stop g (get_or (geo g).order i 0) (get_or xs i 0)

-- track and sector byte of what stands at position k of the passing order: of a sector, or zeros after the last
pub record Passed (g : Geometry) (k : ℕ) (r : Address) : Type 0 where
  pub track_is : r.track ≡ track_byte (geo g) (head_of (drop k (passing (geo g))))
  pub sector_is : r.sector ≡ sector_byte (geo g) (head_of (drop k (passing (geo g))))
