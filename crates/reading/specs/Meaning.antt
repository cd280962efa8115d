-- What the code's answer means, and the sectors of a file as contracts name them.
-- Assumes nothing.
use Rattle.std.specs.Prelude.{◌≡◌, ℕ, ◌+◌, ◌-◌, ◌≤◌, ◌<◌, Bool, true, false, List, [], map, length, take, drop, Some, None}
use Rattle.std.specs.declared.option.Option as code
use Rattle.std.proofs.Math.Option.{Option, none, some}
use Rattle.std.proofs.lemmas.List.Edits.{sets}
use Rattle.lists.specs.Lists.{byte, word_at}
use Rattle.format.specs.Geometry as format
use Rattle.format.specs.Geometry.{Next, stop, go, off, Disc, sector}
use Rattle.format.specs.Layout.{link_of, met}
use Rattle.format.specs.Modules.{Module, end_of}
use Rattle.format.specs.Effects.{body}
use Rattle.geometry.specs.Meaning.{geo, sectors_of, Image}
use Rattle.geometry.specs.declared.Geometry.{Geometry}
use Rattle.reading.specs.Plain.{size_of}
use Rattle.reading.specs.declared.answer.Header.{Header}

-- ---- the answer

-- the code's answer for what sectors hold
abbrev pub header_of : Option Module → code.Option Header
header_of none = None
header_of (some m) = Some (record { page = m.page; start = m.start; end = end_of m; transfer = m.transfer; length = length m.bytes })

-- the bytes of the module that sectors hold, or none
abbrev pub bytes_in : Option Module → List ℕ
bytes_in none = []
bytes_in (some m) = m.bytes

-- the numbers in the body of a first sector
abbrev pub numbers_in : List ℕ → Header
numbers_in b = record { page = byte b 1; start = word_at b 2; end = word_at b 4; transfer = word_at b 6; length = size_of b }

-- ---- the sectors

-- leads to a sector
abbrev pub leads : Next → Bool
leads stop = false
leads (go n) = true
leads off = false

-- the k sectors that follow sector n
abbrev pub after : format.Geometry → Disc → ℕ → ℕ → List ℕ
after G d n k = met G d k (link_of G (sector d n))

-- what stands after the link of sector n
abbrev pub body_of : Geometry → List ℕ → ℕ → List ℕ
body_of g image n = body (sector (sectors_of g image) n)

-- what stands after the links of sectors
abbrev pub bodies_of : Disc → List ℕ → List (List ℕ)
bodies_of d ns = map (λ n. body (sector d n)) ns

-- those of the sectors of a file: `count` sectors from `first` on
abbrev pub file_bodies : Geometry → List ℕ → (first count : ℕ) → List (List ℕ)
file_bodies g image first count = bodies_of (sectors_of g image) (met (geo g) (sectors_of g image) count (go first))

-- those of the k sectors that follow sector n
abbrev pub bodies_after : Geometry → List ℕ → (n k : ℕ) → List (List ℕ)
bodies_after g image n k = bodies_of (sectors_of g image) (after (geo g) (sectors_of g image) n k)

-- a chain of `count` sectors from `first` on
pub record File (g : Geometry) (image : List ℕ) (first count : ℕ) : Type 0 where
  pub on_image : Image g image
  pub is_on_disc : first < g.sectors
  pub some_sector : 1 ≤ count
  pub lasts : length (met (geo g) (sectors_of g image) count (go first)) ≡ count

-- sector n, and k sectors that follow it
pub record Followed (g : Geometry) (image : List ℕ) (n k : ℕ) : Type 0 where
  pub is_on_disc : n < g.sectors
  pub lasts : length (after (geo g) (sectors_of g image) n k) ≡ k

-- ---- the buffer

-- the bytes of the sector s from offset k on are copied into the buffer from position `at` on, up to `end`; r is the position after them
pub record Copied (s : List ℕ) (k : ℕ) (buffer buffer' : List ℕ) (at end r : ℕ) : Type 0 where
  pub stored : buffer' ≡ sets buffer at (take (end - at) (drop k s))
  pub next : r ≡ at + length (take (end - at) (drop k s))
  pub inside : r ≤ end
