-- The list of what a command wrote, by the sectors that were written.
-- Assumes nothing.
use Rattle.std.specs.Prelude.{◌≡◌, ℕ, ◌≤◌, List, ◌∷◌, length}
use Rattle.format.specs.Layout.{met}
use Rattle.soundness.specs.CopiedOut.{copied}
use Rattle.geometry.specs.Meaning.{geo, sectors_of}
use Rattle.disc.specs.Meaning.{meaning, Inside}
use Rattle.geometry.specs.declared.Geometry.{Geometry}
use Rattle.geometry.specs.declared.SectorNo.{SectorNo}
use Rattle.disc.specs.declared.Link.{Link}
use Rattle.records.specs.Storing.{Stored}

-- the list of these sectors as they stand in the image, at the front of the lent buffer; its length is r
abbrev pub Copied : Geometry → (image ns lent buffer : List ℕ) → (r : ℕ) → Type 0
Copied g image ns lent buffer r = Stored lent 0 (copied (geo g) (sectors_of g image) ns) buffer r

-- the sectors with which the list of a save begins: 0/1 and the file's, by the chain from its first one on
abbrev pub front_of : Geometry → (image : List ℕ) → (first : Link SectorNo) (count : ℕ) → List ℕ
front_of g image first count = 0 ∷ met (geo g) (sectors_of g image) count (meaning first)

-- that chain has `count` sectors
pub record Walks (g : Geometry) (image : List ℕ) (first : Link SectorNo) (count : ℕ) : Type 0 where
  pub inside : Inside g first
  pub few : count ≤ 800
  pub long : length (met (geo g) (sectors_of g image) count (meaning first)) ≡ count
