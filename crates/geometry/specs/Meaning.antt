-- What the code's types mean in the definitions of the disc format, and the sectors of an image as contracts name them.
-- Assumes nothing.
use Rattle.std.specs.Prelude.{◌≡◌, ℕ, suc, ◌+◌, ◌*◌, ◌/◌, ◌%◌, ◌^◌, ◌≤◌, ◌<◌, Bool, ◌&&◌, cond, eqb, leb, List, [], ◌∷◌, length, Ok, Err}
use Rattle.std.specs.declared.result.Result.{Result}
use Rattle.format.specs.Refusals.{Try, Refusal, refused, ok}
use Rattle.format.specs.Geometry as format
use Rattle.format.specs.Geometry.{Format, stated, tracked, geometry, Disc, cut, sector, start_of}
use Rattle.lists.specs.Lists.{index_of}
use Rattle.geometry.specs.declared.Geometry.{Geometry}
use Rattle.geometry.specs.declared.Stated.{Stated}
use Rattle.refusals.specs.declared.Refusal as code

-- the kind of disc that a caller states
abbrev pub kind_of : Stated → Format
kind_of s = stated s.sectors s.arrangement

-- whether there are such discs
abbrev pub known : Stated → Bool
known s = cond (eqb s.sectors 10) (leb s.arrangement 1) (eqb s.arrangement 0 && eqb s.sectors 9)

-- a kind of disc that there is, so written that its sectors a track are those stated (the law `known_per_track`)
abbrev pub formed : (per_track arrangement : ℕ) → Format
formed k a = record { per_track = k; order = (stated k a).order; arrangement = (stated k a).arrangement }

-- the kind of disc that a geometry of the code is of
abbrev pub form : Geometry → Format
form g = formed g.per_track g.arrangement

-- the format's geometry of a geometry of the code
abbrev pub geo : Geometry → format.Geometry
geo g = tracked (form g) g.tracks

-- the places of sectors 1 to 10 on a track where they stand in this order, four bits each from the thirteenth bit on; the first has place i
abbrev pub packed : (place : ℕ) → List ℕ → ℕ
packed i [] = 0
packed i (s ∷ ss) = i * 2 ^ (4 * s + 8) + packed (suc i) ss

-- the places in an arrangement, 0 for plain or 1 for moved; on a track of nine, which is plain, a sector has the place that it has on one of ten
unfoldable pub places_of : (arrangement : ℕ) → ℕ
places_of a = packed 0 (stated 10 a).arrangement

-- the place of a sector on its track
unfoldable pub place_in : (arrangement sector : ℕ) → ℕ
place_in a s = index_of s (stated 10 a).arrangement

-- the tracks in a length, or 0 where it is not one of whole tracks
abbrev pub whole_tracks : (per_track length : ℕ) → ℕ
whole_tracks k n = cond (eqb (n % (256 * k)) 0) (n / (256 * k)) 0

-- the code's answer for the geometry of a length
abbrev pub sized : Stated → Try Refusal format.Geometry → Result Geometry code.Refusal
sized s (refused e) = Err code.TheVariants.Size
sized s (ok G) =
    Ok (record {
      tracks = G.tracks;
      per_track = G.per_track;
      sectors = format.sectors G;
      arrangement = s.arrangement;
      places = places_of s.arrangement;
    })

-- the code's answer for what a caller states
unfoldable pub sized_as : Stated → (length : ℕ) → Result Geometry code.Refusal
sized_as s n = sized s (geometry (kind_of s) n)

-- the sectors of an image
abbrev pub sectors_of : Geometry → List ℕ → Disc
sectors_of g image = cut (form g) (geo g) image

-- What the code relies on: nine or ten sectors a track, and the moved arrangement only with ten (`moved_ten`). Every field is a fact about numbers, so
-- that `omega` proves the whole; some follow from others and are there for `omega` to find.
pub record Valid (g : Geometry) : Type 0 where
  pub some_on_track : 0 < (geo g).per_track
  pub nine_on_track : 9 ≤ (geo g).per_track
  pub few_on_track : (geo g).per_track ≤ 10
  pub arranged_as : g.arrangement ≤ 1
  pub moved_ten : 10 * g.arrangement ≤ (geo g).per_track
  pub placed_as : g.places ≡ places_of g.arrangement
  pub some_track : 1 ≤ g.tracks
  pub few_tracks : g.tracks ≤ 80
  pub total : g.sectors ≡ format.sectors (geo g)
  pub some_sectors : 0 < g.sectors
  pub few_sectors : g.sectors ≤ 800

-- an image of this geometry
pub record Image (g : Geometry) (image : List ℕ) : Type 0 where
  pub valid : Valid g
  pub long : length image ≡ 256 * g.sectors

-- where a sector starts in an image, and that it ends there
pub record Starts (g : Geometry) (n r : ℕ) : Type 0 where
  pub at : r ≡ start_of (form g) (geo g) n
  pub fits : r + 256 ≤ 256 * g.sectors
