-- Document 01, 'What the check asks': eight rules, and the lowest-numbered one that is broken.
-- Each rule is stated for every disc; it is asked only where all lower ones hold.
-- Assumes nothing.
use Rattle.std.specs.Prelude.{ℕ, ◌-◌, Bool, true, false, not, ◌&&◌, List, [], ◌∷◌, ◌++◌, map, length, eqb, leb}
use Rattle.lists.specs.Lists.{byte, all, any, elem, distinct, same, range, sum, last_or}
use Rattle.format.specs.Refusals.{Try, refused, ok, ◌>>◌, refuse◌if◌}
use Rattle.format.specs.Geometry.{Geometry, sectors, Next, stop, go, off, Disc, sector}
use Rattle.format.specs.Layout.{in_use_offset, Slot, in_use, name_of, length_of, attribute_of, is_attribute, slots_at, used_count, free_count, chain_ends, directory_pointer, free_pointer, directory, free, entries, first_of, last_of, file_chain, file_sectors, places}
use Rattle.format.specs.Names.{legal_stored}

-- the number of the rule that a run of tests stopped at, or 0
abbrev pub lowest : {A : Type 0} → Try ℕ A → ℕ
lowest (refused k) = k
lowest (ok a) = 0

-- leads to sector number n
abbrev pub at? : Next → ℕ → Bool
at? stop n = false
at? off n = false
at? (go m) n = eqb m n

-- leads to a sector of the disc that isn't 0/1
abbrev pub elsewhere : Next → Bool
elsewhere stop = false
elsewhere off = false
elsewhere (go n) = not (eqb n 0)

-- "each entry has a padded legal name, length at least 1, and an attribute as above"
unfoldable pub good_entry : Slot → Bool
good_entry s = legal_stored (name_of s) && leb 1 (length_of s) && is_attribute (attribute_of s)

-- no two of the entries have the same nine name bytes
unfoldable pub differ : List Slot → Bool
differ [] = true
differ (s ∷ ss) = not (any (λ t. same (name_of s) (name_of t)) ss) && differ ss

module _ (G : Geometry) (d : Disc) where
  -- 1. "The directory pointer is on the disc and isn't 0/1."
  unfoldable pub rule1 : Bool
  rule1 = elsewhere (directory_pointer G d)

  -- 2. "The directory chain meets only sectors on the disc, ends, meets none twice and never 0/1."
  unfoldable pub rule2 : Bool
  rule2 = chain_ends G d (directory_pointer G d) && distinct (0 ∷ directory G d)

  -- "byte 2 is the number of slots that aren't free"
  unfoldable pub counted : ℕ → Bool
  counted n = eqb (byte (sector d n) in_use_offset) (length (in_use (slots_at d n)))

  -- 3. "In each directory sector, byte 2 is the number of slots that aren't free; each entry has .."
  unfoldable pub rule3 : Bool
  rule3 = all counted (directory G d) && all good_entry (entries G d)

  -- 4. "No two entries have the same nine name bytes."
  unfoldable pub rule4 : Bool
  rule4 = differ (entries G d)

  -- "has exactly its length, is on the disc, has its end link at the entry's last sector and nowhere before"
  unfoldable pub good_chain : Slot → Bool
  good_chain s = chain_ends G d (first_of G s) && eqb (length (file_chain G d s)) (length_of s) && at? (last_of G s) (last_or 0 (file_chain G d s))

  -- 5. "Each file's chain .. meets no sector of 0/1, the directory or another place in any file."
  unfoldable pub rule5 : Bool
  rule5 = all good_chain (entries G d) && distinct (0 ∷ directory G d ++ file_sectors G d)

  -- "If rules 1 to 5 hold" (document 02, request g)
  unfoldable pub files_hold : Bool
  files_hold = rule1 && rule2 && rule3 && rule4 && rule5

  -- 6. "The free chain .. is on the disc, ends, meets no sector twice, nor 0/1, nor one met by the directory or a file, and has the length in the free count."
  unfoldable pub rule6 : Bool
  rule6 = chain_ends G d (free_pointer G d) && distinct (0 ∷ places G d) && eqb (length (free G d)) (free_count d)

  -- 7. "The used count is the sum of the file lengths."
  unfoldable pub rule7 : Bool
  rule7 = eqb (used_count d) (sum (map length_of (entries G d)))

  -- 8. "Every sector but 0/1 has been met by the directory, a file or the free chain."
  unfoldable pub rule8 : Bool
  rule8 = all (λ n. elem n (places G d)) (range 1 (sectors G - 1))

  -- "It reports the lowest-numbered rule that is broken, or that the image is sound": 0 for sound.
  unfoldable pub broken : ℕ
  broken = lowest (do
    refuse 1 if not rule1
    refuse 2 if not rule2
    refuse 3 if not rule3
    refuse 4 if not rule4
    refuse 5 if not rule5
    refuse 6 if not rule6
    refuse 7 if not rule7
    refuse 8 if not rule8)

  -- "the image is sound"
  abbrev pub sound : Bool
  sound = eqb broken 0
