-- Document 01, 'The disc this work handles': tracks, sectors, sector numbers, and where sectors lie in an image; with requests k and m of document 02.
-- The only file that knows how many sectors a track has, the passing order, and byte positions in an image.
-- Assumes nothing.
use Rattle.std.specs.Prelude.{ℕ, zero, suc, ◌+◌, ◌*◌, ◌/◌, ◌%◌, ◌-◌, Bool, not, ◌&&◌, cond, List, [], ◌∷◌, map, get_or, set, take, drop, eqb, leb, ltb}
use Rattle.lists.specs.Lists.{range, joined, index_of}
use Rattle.format.specs.Refusals.{Try, Refusal, SIZE, ok, refuse◌if◌, ◌>>◌}

-- ---- tracks and sectors

-- What a kind of disc has on each track, and what its images have: how many sectors, the order in which a blank disc's chain passes them, and the
-- arrangement: the sectors of a track in the order in which an image has them.
pub record Format : Type 0 where
  pub per_track : ℕ
  pub order : List ℕ
  pub arrangement : List ℕ

-- the same discs, their images in another arrangement
abbrev pub arranged : List ℕ → Format → Format
arranged A F = record { per_track = F.per_track; order = F.order; arrangement = A }

-- so many sectors a track, and this passing order; plain: an image has the sectors of a track in the order of their numbers
abbrev pub plainly : (per_track : ℕ) (order : List ℕ) → Format
plainly k o = record { per_track = k; order = o; arrangement = range 1 k }

-- "tracks .. of 10 sectors, numbered 1 to 10"; "On each track the chain passes 1, 4, 7, 10, 3, 6, 9, 2, 5, 8".
unfoldable pub ten : Format
ten = plainly 10 (1 ∷ 4 ∷ 7 ∷ 10 ∷ 3 ∷ 6 ∷ 9 ∷ 2 ∷ 5 ∷ 8 ∷ [])

-- "The new card stores the sectors of each track in passing order".
unfoldable pub ten_moved : Format
ten_moved = arranged ten.order ten

-- "the first TANDOS, with 9 sectors a track"; "Blank order for 9 is 1, 4, 7, 2, 5, 8, 3, 6, 9."
unfoldable pub nine : Format
nine = plainly 9 (1 ∷ 4 ∷ 7 ∷ 2 ∷ 5 ∷ 8 ∷ 3 ∷ 6 ∷ 9 ∷ [])

-- a kind of disc that there isn't: with no sector on a track a length has no tracks (n / 0 is 0), so that none is right (the law `no_disc`)
unfoldable pub unknown : Format
unknown = plainly 0 []

-- What the caller states: "9 or 10" sectors a track, and "0 for plain or 1 for moved; another number gives 1"; "Arrangement 1 of k) .. stay[s] with ten".
unfoldable pub stated : (per_track arrangement : ℕ) → Format
stated k a =
    cond (eqb k 10 && eqb a 0) ten
    (cond (eqb k 10 && eqb a 1) ten_moved
    (cond (eqb k 9 && eqb a 0) nine
    unknown))

-- One side of a disc: T, the number of tracks, and what a format has on each. The arrangement is no part of it: what is on a disc never hangs on where
-- an image has its sectors.
pub record Geometry : Type 0 where
  pub tracks : ℕ
  pub per_track : ℕ
  pub order : List ℕ

-- a disc of the format F with T tracks
abbrev pub tracked : Format → ℕ → Geometry
tracked F T = record { tracks = T; per_track = F.per_track; order = F.order }

-- the number of all sectors: document 01's 10T, with the stated number for 10
abbrev pub sectors : Geometry → ℕ
sectors G = G.per_track * G.tracks

-- Refusal 1: "the length isn't 256 times that times 1 to 80 tracks, or another number was stated" (`unknown`).
unfoldable pub geometry : Format → ℕ → Try Refusal Geometry
geometry F n = do
  let track = 256 * F.per_track
  refuse SIZE if not (eqb (n % track) 0 && leb 1 (n / track) && leb (n / track) 80)
  ok (tracked F (n / track))

-- "Track t, sector s is sector number 10t + s - 1", with "the stated number .. for 10 sectors a track".
abbrev pub sector_number : Geometry → ℕ → ℕ → ℕ
sector_number G t s = G.per_track * t + s - 1

-- "On the disc" means track below T, sector 1 to 10: to the stated number.
abbrev pub on_disc : Geometry → ℕ → ℕ → Bool
on_disc G t s = ltb t G.tracks && leb 1 s && leb s G.per_track

-- the track of a sector number
abbrev pub track_of : Geometry → ℕ → ℕ
track_of G n = n / G.per_track

-- its sector on the track
abbrev pub sector_of : Geometry → ℕ → ℕ
sector_of G n = n % G.per_track + 1

-- ---- places in an image, counted in sectors

-- the place of a sector: on its track, where the arrangement has it
unfoldable pub place_of : Format → Geometry → ℕ → ℕ
place_of F G n = G.per_track * track_of G n + index_of (sector_of G n) F.arrangement

-- the sector at a place
unfoldable pub sector_at : Format → Geometry → ℕ → ℕ
sector_at F G p = sector_number G (p / G.per_track) (get_or F.arrangement (p % G.per_track) 0)

-- A plain image's sector "starts at 256 times that number" (`plain_place`); any image's at 256 times its place. (the law `sector_cut`: this
-- is where `cut` finds the sector)
abbrev pub start_of : Format → Geometry → ℕ → ℕ
start_of F G n = 256 * place_of F G n

-- ---- links and pointers

-- What a track and a sector byte lead to: nothing, a sector of the disc by its number, or no sector of the disc.
pub data Next : Type 0 where
  stop : Next
  go : ℕ → Next
  off : Next

-- "sector byte (byte 1) zero ends a chain, whatever the track byte"; a pointer's sector byte 0 likewise means none.
unfoldable pub pointed : Geometry → ℕ → ℕ → Next
pointed G t s = cond (eqb s 0) stop (cond (on_disc G t s) (go (sector_number G t s)) off)

-- ---- the sectors of an image

-- A disc is the list of its sectors by number, each 256 bytes.
abbrev pub Disc : Type 0
Disc = List (List ℕ)

-- n sectors "of 256 bytes", one after the other
unfoldable pub chunks : ℕ → List ℕ → Disc
chunks zero xs = []
chunks (suc n) xs = take 256 xs ∷ chunks n (drop 256 xs)

-- the bytes of sector number n
abbrev pub sector : Disc → ℕ → List ℕ
sector d n = get_or d n []

-- N sectors, the n-th being the one that stands at `at n`
unfoldable pub reordered : (at : ℕ → ℕ) → ℕ → Disc → Disc
reordered at N d = map (λ n. sector d (at n)) (range 0 N)

-- the sectors of an image, in the order of their numbers
unfoldable pub cut : Format → Geometry → List ℕ → Disc
cut F G image = reordered (place_of F G) (sectors G) (chunks (sectors G) image)

-- the image of sectors
unfoldable pub flat : Format → Geometry → Disc → List ℕ
flat F G d = joined (reordered (sector_at F G) (sectors G) d)

-- a part of an image: where it starts, and how many bytes it has
pub record Part : Type 0 where
  pub at : ℕ
  pub size : ℕ

-- "the 254 bytes after a sector's link where they lie in the image" (bytes 2 to 255)
abbrev pub body_part : Format → Geometry → ℕ → Part
body_part F G n = record { at = start_of F G n + 2; size = 254 }

-- where the image of the same sectors in the arrangement A has a part of one sector
abbrev pub moved_part : Format → (A : List ℕ) → Geometry → Part → Part
moved_part F A G p = record { at = start_of (arranged A F) G (sector_at F G (p.at / 256)) + p.at % 256; size = p.size }

-- the bytes of a part
abbrev pub bytes_of : Part → List ℕ → List ℕ
bytes_of p image = take p.size (drop p.at image)

-- ---- writes

-- one sector with all its bytes
pub record Write : Type 0 where
  pub at : ℕ
  pub bytes : List ℕ

-- the disc after writes, in their order
abbrev pub written : List Write → Disc → Disc
written [] d = d
written (w ∷ ws) d = written ws (set d w.at w.bytes)
