-- What the laws of proofs/MovingLaws.antt speak of.
-- Assumes nothing.
use Rattle.std.specs.Prelude.{◌≡◌}
use mathlib.Core.List.{[], ◌∷◌, map}
use Rattle.lists.specs.Lists.{range}
use Rattle.format.specs.Geometry.{stated, tracked, sector_number, start_of, sector_at}

-- the card's places, computed: those of a track, then two by their bytes
pub record CardPlaces : Type 0 where
  pub of_track : map (sector_at (stated 10 1) (tracked (stated 10 1) 40)) (range 0 10)
      ≡ map (sector_number (tracked (stated 10 1) 40) 0) (1 ∷ 4 ∷ 7 ∷ 10 ∷ 3 ∷ 6 ∷ 9 ∷ 2 ∷ 5 ∷ 8 ∷ [])
  pub starts_0_4 : start_of (stated 10 1) (tracked (stated 10 1) 40) (sector_number (tracked (stated 10 1) 40) 0 4) ≡ 256
  pub starts_39_10 : start_of (stated 10 1) (tracked (stated 10 1) 40) (sector_number (tracked (stated 10 1) 40) 39 10) ≡ 100608
