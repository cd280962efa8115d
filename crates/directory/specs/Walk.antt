-- What a walk along the directory still meets, and what its start and its steps promise.
-- Assumes nothing.
use Rattle.std.specs.Prelude.{◌≡◌, ℕ, List}
use Rattle.format.specs.Layout.{met, directory}
use Rattle.geometry.specs.Meaning.{geo, sectors_of}
use Rattle.geometry.specs.declared.Geometry.{Geometry}
use Rattle.disc.specs.Meaning.{meaning, Inside}
use Rattle.directory.specs.declared.walk.Sectors.{Sectors}

-- the sectors that a walk still meets
unfoldable pub rest_of : Sectors → List ℕ
rest_of w = met (geo w.g) (sectors_of w.g w.image.now) w.left (meaning w.at)

-- a walk that starts on a disc meets the sectors of its directory
pub record Started (g : Geometry) (image : List ℕ) (w : Sectors) : Type 0 where
  pub all : rest_of w ≡ directory (geo g) (sectors_of g image)
  pub on : w.g ≡ g
  pub lent : w.image.now ≡ image
  pub inside : Inside g w.at

-- a step of walk w leaves v, which goes along the same disc
pub record Kept (w v : Sectors) : Type 0 where
  pub on : v.g ≡ w.g
  pub lent : v.image.now ≡ w.image.now
  pub inside : Inside w.g v.at
