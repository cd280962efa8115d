-- What the laws of proofs/Formats.antt speak of.
-- Assumes nothing.
use Rattle.std.specs.Prelude.{◌≡◌, suc, ◌≤◌, [], ◌∷◌, take}
use Rattle.lists.specs.Lists.{Once}
use Rattle.format.specs.Geometry.{Format}

-- What the facts ask of a kind of disc: that 80 tracks have "at most 800 sectors", that an image has each sector of a track at one place, and that the
-- chain of a blank disc passes each once, sector 1 first and then 4, the two that are taken.
pub record GoodFormat (F : Format) : Type 0 where
  pub few : F.per_track ≤ 10
  pub each_once : Once (suc F.per_track) F.arrangement
  pub passes_once : Once (suc F.per_track) F.order
  pub taken_first : take 2 F.order ≡ 1 ∷ 4 ∷ []
