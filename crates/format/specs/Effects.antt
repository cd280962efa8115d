-- Document 01, 'What the commands do': what each command gives and writes on a disc where no refusal applies; and the repair of document 02's request g.
-- What a command writes is a list of whole sectors, each as it stands afterwards. Their order is request e's of document 02.
-- Assumes nothing.
use Rattle.std.specs.Prelude.{ℕ, ◌+◌, ◌-◌, false, not, cond, List, [], ◌∷◌, ◌++◌, map, length, take, drop, replicate}
use Rattle.std.proofs.Math.Option.{Option, none, some}
use Rattle.std.proofs.lemmas.List.Edits.{sets}
use Rattle.lists.specs.Lists.{is_some, byte, word, filter, elem, range, joined, sum, last_or}
use Rattle.format.specs.Geometry.{Geometry, sectors, sector_number, Next, stop, go, Disc, sector, Write, written}
use Rattle.format.specs.Layout.{free_offset, directory_offset, free_count_offset, disc_name_offset, version_offset, link_offset, in_use_offset, system, free_count, used_count, disc_name_of, attribute, Slot, slot_start, empty_slot, name_of, length_of, attribute_of, link_of, link_bytes, pair_bytes, free_pointer, directory, free, entries, open_slot, first_of, file_chain, file_sectors}
use Rattle.format.specs.Modules.{Module, sectors_for, bodies, plain}

-- ---- parts of sectors

-- the bytes after a sector's link
abbrev pub body : List ℕ → List ℕ
body s = drop 2 s

-- the directory sector of a slot with bytes stored from offset k of the slot on: "Rename and protect write the entry's directory sector, changed or not."
abbrev pub slot_write : Disc → Slot → ℕ → List ℕ → Write
slot_write d s k xs = record { at = s.home; bytes = sets (sector d s.home) (slot_start s.index + k) xs }

-- a directory sector's bytes with n entries in use, and xs in slot i; "13 bytes that we ignore and keep" stay
unfoldable pub with_slot : List ℕ → ℕ → ℕ → List ℕ → List ℕ
with_slot s i n xs = sets (sets s in_use_offset (n ∷ [])) (slot_start i) xs

-- a sector's bytes with another link
abbrev pub with_link : List ℕ → List ℕ → List ℕ
with_link s link = sets s link_offset link

-- the directory sector of a slot with the whole slot stored, and n entries in use
abbrev pub entry_write : Disc → Slot → ℕ → List ℕ → Write
entry_write d s n xs = record { at = s.home; bytes = with_slot (sector d s.home) s.index n xs }

-- what leads to the first of a list of sectors
abbrev pub head_of : List ℕ → Next
head_of [] = stop
head_of (n ∷ ns) = go n

-- "version the 17 bytes `TANDOS 65 IMAGE 1`"
unfoldable pub version : List ℕ
version = 84 ∷ 65 ∷ 78 ∷ 68 ∷ 79 ∷ 83 ∷ 32 ∷ 54 ∷ 53 ∷ 32 ∷ 73 ∷ 77 ∷ 65 ∷ 71 ∷ 69 ∷ 32 ∷ 49 ∷ []

module _ (G : Geometry) where
  -- sectors linked in order, with these bytes after their links; the last link is zero
  unfoldable pub chained : List ℕ → List (List ℕ) → List Write
  chained [] bs = []
  chained (n ∷ ns) [] = []
  chained (n ∷ ns) (b ∷ bs) = record { at = n; bytes = link_bytes G (head_of ns) ++ b } ∷ chained ns bs

  -- the system sector with another free pointer and other counts
  unfoldable pub system_write : Disc → Next → (freeNow usedNow : ℕ) → Write
  system_write d p freeNow usedNow = record { at = 0; bytes = sets (sets (system d) free_offset (pair_bytes G p)) free_count_offset (word freeNow ++ word usedNow) }

  -- ---- save

  -- "The new file is unprotected."
  unfoldable pub entry_bytes : (nine sectorsTaken : List ℕ) → List ℕ
  entry_bytes nine ns = nine ++ word (length ns) ++ pair_bytes G (head_of ns) ++ pair_bytes G (go (last_or 0 ns)) ++ attribute false ∷ []

  -- "one more after those if no slot is free"
  unfoldable pub growth : Disc → ℕ
  growth d = cond (is_some (open_slot G d)) 0 1

  -- what a save of L bytes takes
  unfoldable pub needed : Disc → ℕ → ℕ
  needed d L = sectors_for L + growth d

  -- "The slot is the first free one in directory order, and its sector's byte 2 goes up by one." Where none is free: "A new directory
  -- sector is all zeros but for its count and its first entry, and is linked from the last one." In this order: "last the directory sector with the
  -- new entry, or, where the directory grows, the new directory sector and then the one that links to it".
  unfoldable pub entry_writes : Disc → (entry : List ℕ) → (new : ℕ) → Option Slot → List Write
  entry_writes d e new (some s) = entry_write d s (byte (sector d s.home) in_use_offset + 1) e ∷ []
  entry_writes d e new none =
      let last = last_or 0 (directory G d) in
      record { at = new; bytes = with_slot (replicate 256 0) 0 1 e } ∷ record { at = last; bytes = with_link (sector d last) (link_bytes G (go new)) } ∷ []

  -- "Save takes sectors from the head of the free chain, in order, as many as the module takes; one more after those if no slot is
  -- free." "The free pointer becomes the link found in the last sector taken (zeros if that ended the chain). Both counts follow."
  -- In this order: "Save writes the system sector first, then the file's sectors in chain order; last the directory sector ..".
  unfoldable pub save_writes : Disc → (nine : List ℕ) → Module → List Write
  save_writes d nine m =
      let k = sectors_for (length m.bytes) in
      let taken = take (k + growth d) (free G d) in
      let file = take k taken in
      system_write d (link_of G (sector d (last_or 0 taken))) (free_count d - length taken) (used_count d + k)
      ∷ chained file (bodies m)
      ++ entry_writes d (entry_bytes nine file) (last_or 0 taken) (open_slot G d)

  -- ---- delete

  -- "Delete clears the slot to zeros, lowers byte 2, links the file's last sector to the old free pointer (zeros if none), and points the
  -- free pointer at the file's first sector. Both counts follow. Other bytes of those sectors stay. An emptied directory sector stays."
  -- In this order: "Delete writes the directory sector, the file's last sector, the system sector."
  unfoldable pub delete_writes : Disc → Slot → List Write
  delete_writes d s =
      let last = last_or 0 (file_chain G d s) in
      entry_write d s (byte (sector d s.home) in_use_offset - 1) empty_slot
      ∷ record { at = last; bytes = with_link (sector d last) (link_bytes G (free_pointer G d)) }
      ∷ system_write d (first_of G s) (free_count d + length_of s) (used_count d - length_of s)
      ∷ []

  -- ---- read and list

  -- the module that a file's sectors hold, if they hold one
  unfoldable pub reading : Disc → Slot → Option Module
  reading d s = plain (map (λ n. body (sector d n)) (file_chain G d s))

  -- "kind 1, nine disc name bytes, free count, used count (low first); then for each entry in directory order kind 2, nine name bytes,
  -- length (low first), attribute; then kind 0, no body"
  unfoldable pub listing : Disc → List ℕ
  listing d =
      1 ∷ disc_name_of d ++ word (free_count d) ++ word (used_count d)
      ++ joined (map (λ s. 2 ∷ name_of s ++ word (length_of s) ++ attribute_of s ∷ []) (entries G d))
      ++ 0 ∷ []

  -- ---- blank disc

  -- "On each track the chain passes 1, 4, 7, .., then goes to sector 1 of the next track"
  unfoldable pub passing : List ℕ
  passing = joined (map (λ t. map (sector_number G t) G.order) (range 0 G.tracks))

  -- the sectors that the chain passes, but for those that are taken
  abbrev pub passing_but : (taken : List ℕ) → List ℕ
  passing_but taken = filter (λ n. not (elem n taken)) passing

  -- "directory pointer 0/4"
  abbrev pub blank_directory : ℕ
  blank_directory = sector_number G 0 4

  -- "0/1 and 0/4 are taken"
  unfoldable pub blank_free : List ℕ
  blank_free = passing_but (0 ∷ blank_directory ∷ [])

  -- "all zeros, then directory pointer 0/4, counts 10T - 2 and 0, name padded with spaces, version .."; "Bytes $0-$F stay zero"
  unfoldable pub blank_system : (nine : List ℕ) → List ℕ
  blank_system nine =
      let freed = sets (replicate 256 0) free_offset (pair_bytes G (head_of blank_free)) in
      let pointed = sets freed directory_offset (pair_bytes G (go blank_directory)) in
      let counted = sets pointed free_count_offset (word (sectors G - 2) ++ word 0) in
      let named = sets counted disc_name_offset nine in
      sets named version_offset version

  -- the whole disc
  unfoldable pub blank_disc : (nine : List ℕ) → Disc
  blank_disc nine =
      written (record { at = 0; bytes = blank_system nine } ∷ chained blank_free (replicate (sectors G - 2) (replicate 254 0)))
      (replicate (sectors G) (replicate 256 0))

  -- ---- repair

  -- "every sector that is neither 0/1 nor met by the directory or a file .. in the order a blank disc uses"
  unfoldable pub unmet : Disc → List ℕ
  unmet d = passing_but (0 ∷ directory G d ++ file_sectors G d)

  -- "threads [them] into a new free chain .., ends it with zeros, and sets the free pointer (zeros if that is empty) and both counts; no other byte
  -- changes": each sector once, so that their order says nothing, and a repair gives no list
  unfoldable pub repair_writes : Disc → List Write
  repair_writes d =
      system_write d (head_of (unmet d)) (length (unmet d)) (sum (map length_of (entries G d)))
      ∷ chained (unmet d) (map (λ n. body (sector d n)) (unmet d))
