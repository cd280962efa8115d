-- Document 01, 'Layouts (000)': the system sector, links and pairs, chains, and the directory's slots and entries.
-- Every definition is total on any list of sectors; the check says whether what it reads is sound.
-- Assumes nothing.
use Rattle.std.specs.Prelude.{ℕ, zero, suc, ◌+◌, ◌*◌, Bool, true, false, not, ◌||◌, take, drop, replicate, eqb}
use Rattle.std.proofs.Math.Option.{Option}
use mathlib.Core.List.{List, [], ◌∷◌, ◌++◌, map, head?}
use Rattle.lists.specs.Lists.{byte, word_at, filter, same, range, joined}
use Rattle.format.specs.Geometry.{Geometry, sectors, Next, stop, go, off, pointed, Disc, sector, track_of, sector_of}

-- ---- where things stand in a sector

-- "free pointer in bytes $10 (sector), $11 (track); directory pointer in $12 (sector), $13 (track)"
abbrev pub free_offset : ℕ
free_offset = 0x10

abbrev pub directory_offset : ℕ
directory_offset = 0x12

-- "free count in $14-$15, used count in $16-$17, low byte first"
abbrev pub free_count_offset : ℕ
free_count_offset = 0x14

abbrev pub used_count_offset : ℕ
used_count_offset = 0x16

-- "disc name in $18-$20; version in $40-$5F"
abbrev pub disc_name_offset : ℕ
disc_name_offset = 0x18

abbrev pub version_offset : ℕ
version_offset = 0x40

-- "Every other sector begins with its link"
abbrev pub link_offset : ℕ
link_offset = 0

-- "Directory sector: link, byte 2 the number of entries in use"
abbrev pub in_use_offset : ℕ
in_use_offset = 2

-- "then 15 slots of 16 bytes from byte 3, then 13 bytes that we ignore and keep"
abbrev pub slots_each : ℕ
slots_each = 15

abbrev pub slot_start : ℕ → ℕ
slot_start i = 3 + 16 * i

-- "An entry: 6 name, 3 extension, 2 length in sectors (low first), first sector and track, last sector and track, attribute."
abbrev pub name_offset : ℕ
name_offset = 0

abbrev pub length_offset : ℕ
length_offset = 9

abbrev pub first_offset : ℕ
first_offset = 11

abbrev pub last_offset : ℕ
last_offset = 13

abbrev pub attribute_offset : ℕ
attribute_offset = 15

-- ---- the system sector, 0/1

-- "System sector, 0/1"
abbrev pub system : Disc → List ℕ
system d = sector d 0

-- the free count as it stands
abbrev pub free_count : Disc → ℕ
free_count d = word_at (system d) free_count_offset

-- the used count as it stands
abbrev pub used_count : Disc → ℕ
used_count d = word_at (system d) used_count_offset

-- the nine bytes of the disc name as they stand
abbrev pub disc_name_of : Disc → List ℕ
disc_name_of d = take 9 (drop disc_name_offset (system d))

-- ---- the attribute: the only part that knows its values

-- "The attribute is $00, or $80 when protected."
abbrev pub attribute : Bool → ℕ
attribute false = 0x00
attribute true = 0x80

-- one of these two
abbrev pub is_attribute : ℕ → Bool
is_attribute a = eqb a (attribute false) || eqb a (attribute true)

-- "when protected"
abbrev pub is_protected : ℕ → Bool
is_protected a = eqb a (attribute true)

-- Protect "writes $80 or $00 to the attribute", whatever stood there. (Request b of document 02 keeps a part of what stood there.)
abbrev pub protected_as : Bool → ℕ → ℕ
protected_as on a = attribute on

-- ---- slots and entries

-- One of "15 slots of 16 bytes": its directory sector, its index there from 0 on, its bytes.
pub record Slot : Type 0 where
  pub home : ℕ
  pub index : ℕ
  pub bytes : List ℕ

-- "A free slot is sixteen zeros."
unfoldable pub empty_slot : List ℕ
empty_slot = replicate 16 0

-- whether a slot is free
unfoldable pub free_slot : Slot → Bool
free_slot s = same s.bytes empty_slot

-- those of the slots that aren't free: the entries, in order
unfoldable pub in_use : List Slot → List Slot
in_use ss = filter (λ s. not (free_slot s)) ss

-- the nine name bytes of an entry
abbrev pub name_of : Slot → List ℕ
name_of s = take 9 (drop name_offset s.bytes)

-- its length in sectors
abbrev pub length_of : Slot → ℕ
length_of s = word_at s.bytes length_offset

-- its attribute
abbrev pub attribute_of : Slot → ℕ
attribute_of s = byte s.bytes attribute_offset

-- slot i of directory sector n
unfoldable pub slot_at : Disc → ℕ → ℕ → Slot
slot_at d n i = record { home = n; index = i; bytes = take 16 (drop (slot_start i) (sector d n)) }

-- the slots of one directory sector
unfoldable pub slots_at : Disc → ℕ → List Slot
slots_at d n = map (slot_at d n) (range 0 slots_each)

-- the slots of directory sectors, in order
unfoldable pub slots_of : Disc → List ℕ → List Slot
slots_of d ns = joined (map (slots_at d) ns)

module _ (G : Geometry) where
  -- ---- links and pairs

  -- "Every other sector begins with its link: byte 0 track, byte 1 sector."
  abbrev pub link_at : List ℕ → ℕ → Next
  link_at s k = pointed G (byte s k) (byte s (k + 1))

  -- "The pair stands the other way round in the system sector and in entries."
  abbrev pub pair_at : List ℕ → ℕ → Next
  pair_at s k = pointed G (byte s (k + 1)) (byte s k)

  -- The track byte that is written for what it leads to; of an end "We write both as zero".
  abbrev pub track_byte : Next → ℕ
  track_byte stop = 0
  track_byte off = 0
  track_byte (go n) = track_of G n

  -- the sector byte likewise
  abbrev pub sector_byte : Next → ℕ
  sector_byte stop = 0
  sector_byte off = 0
  sector_byte (go n) = sector_of G n

  -- the two bytes of a link
  abbrev pub link_bytes : Next → List ℕ
  link_bytes p = track_byte p ∷ sector_byte p ∷ []

  -- the two bytes of a pair
  abbrev pub pair_bytes : Next → List ℕ
  pair_bytes p = sector_byte p ∷ track_byte p ∷ []

  -- where a sector's link leads
  abbrev pub link_of : List ℕ → Next
  link_of s = link_at s link_offset

  -- ---- chains

  -- The sectors met from a pointer on, in order: up to the end link, a link off the disc, or the last step allowed.
  unfoldable pub met : Disc → (steps : ℕ) → Next → List ℕ
  met d zero p = []
  met d (suc k) stop = []
  met d (suc k) off = []
  met d (suc k) (go n) = n ∷ met d k (link_of (sector d n))

  -- Whether the walk comes to an end link within the steps, having met only sectors on the disc.
  unfoldable pub ends : Disc → (steps : ℕ) → Next → Bool
  ends d zero stop = true
  ends d zero off = false
  ends d zero (go n) = false
  ends d (suc k) stop = true
  ends d (suc k) off = false
  ends d (suc k) (go n) = ends d k (link_of (sector d n))

  -- As many steps as there are sectors: a longer walk meets a sector twice, and so never ends.
  abbrev pub chain : Disc → Next → List ℕ
  chain d p = met d (sectors G) p

  -- the same for its end
  abbrev pub chain_ends : Disc → Next → Bool
  chain_ends d p = ends d (sectors G) p

  -- ---- the directory, the free chain and the files

  -- where the free pointer leads
  abbrev pub free_pointer : Disc → Next
  free_pointer d = pair_at (system d) free_offset

  -- where the directory pointer leads
  abbrev pub directory_pointer : Disc → Next
  directory_pointer d = pair_at (system d) directory_offset

  -- the sectors of the directory
  unfoldable pub directory : Disc → List ℕ
  directory d = chain d (directory_pointer d)

  -- the sectors of "The free chain (none if the pointer's sector byte is 0)"
  unfoldable pub free : Disc → List ℕ
  free d = chain d (free_pointer d)

  -- the slots in "directory order"
  unfoldable pub slots : Disc → List Slot
  slots d = slots_of d (directory d)

  -- the entries in that order
  unfoldable pub entries : Disc → List Slot
  entries d = in_use (slots d)

  -- "The slot is the first free one in directory order", if one is free.
  unfoldable pub open_slot : Disc → Option Slot
  open_slot d = head? (filter free_slot (slots d))

  -- the entry with these nine name bytes, if there is one
  unfoldable pub find : Disc → List ℕ → Option Slot
  find d nine = head? (filter (λ s. same (name_of s) nine) (entries d))

  -- an entry's first sector
  abbrev pub first_of : Slot → Next
  first_of s = pair_at s.bytes first_offset

  -- an entry's last sector
  abbrev pub last_of : Slot → Next
  last_of s = pair_at s.bytes last_offset

  -- "Each file's chain starts at its first sector"
  unfoldable pub file_chain : Disc → Slot → List ℕ
  file_chain d s = chain d (first_of s)

  -- the sectors of all files
  unfoldable pub file_sectors : Disc → List ℕ
  file_sectors d = joined (map (file_chain d) (entries d))

  -- the sectors met by "directory, files and free chain together"
  abbrev pub places : Disc → List ℕ
  places d = directory d ++ file_sectors d ++ free d
