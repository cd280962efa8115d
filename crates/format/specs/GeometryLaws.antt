-- What the laws of proofs/GeometryLaws.antt speak of.
-- Assumes nothing.
use Rattle.std.proofs.Math.Path.{◌≡◌}
use Rattle.std.specs.Prelude.{ℕ, ◌*◌, ◌≤◌, ◌<◌, length}
use Rattle.lists.specs.ListLaws.{All}
use Rattle.format.specs.Geometry.{Format, Geometry, sectors, Next, go, Disc}

-- n bytes are an image of geometry G
pub record ImageOf (F : Format) (G : Geometry) (n : ℕ) : Type 0 where
  pub per_track : G.per_track ≡ F.per_track
  pub in_order : G.order ≡ F.order
  pub some_track : 1 ≤ G.tracks
  pub few_tracks : G.tracks ≤ 80
  pub long : n ≡ 256 * sectors G

-- what leads to a sector, if it does, leads to one of the disc
unfoldable pub OnDisc : Geometry → Next → Type 0
OnDisc G p = (n : ℕ) → p ≡ go n → n < sectors G

pub record Full (G : Geometry) (d : Disc) : Type 0 where
  pub many : length d ≡ sectors G
  pub each : All (λ s. length s ≡ 256) d
