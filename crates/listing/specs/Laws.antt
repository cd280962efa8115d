-- Laws of Meaning: entries and records slot by slot, and how many bytes they are.
-- Assumes nothing.
use Rattle.std.specs.Prelude.{◌≡◌, refl, ℕ, ◌+◌, ◌*◌, ◌≤◌, ◌<◌, true, false, drop}
use Rattle.std.proofs.Math.Path.{ap}
use Rattle.std.proofs.Common.{sym, ◌∙◌, arith, length-drop, length-take-le}
use Rattle.std.proofs.Math.Bool.{not}
use mathlib.Core.List.{List, [], ◌∷◌, ◌++◌, map, append_assoc, append-nil}
use Rattle.std.proofs.Math.ListN.{length, length-append}
use Rattle.geometry.specs.Laws.{image_full}
use Rattle.lists.specs.Lists.{word, joined}
use Rattle.lists.specs.ListLaws.{All, done, ◌also◌, all_map, all_filter, all_joined, all_mapped, range_all, joined_join}
use Rattle.lists.specs.Counts.{filter_parts}
use Rattle.format.specs.Geometry.{Geometry, sectors, Disc, sector}
use Rattle.format.proofs.GeometryLaws.{pointed_on, sector_full}
use Rattle.format.proofs.ChainLaws.{met_few, met_below}
use Rattle.format.specs.Layout.{disc_name_offset, free_count, used_count, disc_name_of, directory_pointer, directory, slots, entries, slots_each}
use Rattle.format.specs.Layout.{Slot, free_slot, in_use, name_of, length_of, attribute_of, slot_at, slots_at, slots_of}
use Rattle.format.proofs.SlotLaws.{in_use_join}
use Rattle.format.specs.Effects.{listing}
use Rattle.geometry.specs.Meaning.{geo, sectors_of, Image}
use Rattle.geometry.specs.declared.Geometry as code
use Rattle.slots.specs.Laws.{name_nine}
use Rattle.slots.specs.InOrder.{slots_from, slots_all, slots_next, use_free, use_used}
use Rattle.directory.specs.Walk.{rest_of}
use Rattle.directory.specs.Meaning.{entries_left}
use Rattle.directory.specs.Laws.{slots_cons, left_met}
use Rattle.directory.specs.declared.walk.Sectors.{Sectors}
use Rattle.listing.specs.Meaning.{disc_record, entry_record, records_of}

-- ---- entries and records, slot by slot

module _ (s : Slot) where
  pub records_free : free_slot s ≡ true → records_of (s ∷ []) ≡ []
  unfolding records_of
  records_free e = ap (λ (ss : List Slot). joined (map entry_record ss)) (use_free s e)

  pub records_one : free_slot s ≡ false → records_of (s ∷ []) ≡ entry_record s
  unfolding records_of
  records_one e = ap (λ (ss : List Slot). joined (map entry_record ss)) (use_used s e) ∙ append-nil (entry_record s)

pub records_none : records_of [] ≡ []
unfolding records_of in_use
records_none = refl

pub records_join : (xs ys : List Slot) → records_of (xs ++ ys) ≡ records_of xs ++ records_of ys
unfolding records_of
records_join xs ys = ap (λ (ss : List Slot). joined (map entry_record ss)) (in_use_join xs ys) ∙ joined_join entry_record (in_use xs) (in_use ys)

module _ (d : Disc) where
  -- the slots of a sector from slot i on
  pub records_step : (n i : ℕ) → i < slots_each
      → records_of (slots_from d n i) ≡ records_of (slot_at d n i ∷ []) ++ records_of (slots_from d n (i + 1))
  records_step n i h = ap records_of (slots_next d n i h) ∙ records_join (slot_at d n i ∷ []) (slots_from d n (i + 1))

  -- the slots of a sector that a walk meets, and those of the sectors after it
  pub records_met : (w v : Sectors) (n : ℕ) → rest_of w ≡ n ∷ rest_of v
      → records_of (slots_of d (rest_of w)) ≡ records_of (slots_at d n) ++ records_of (slots_of d (rest_of v))
  records_met w v n e =
      ap (λ (ns : List ℕ). records_of (slots_of d ns)) e
      ∙ ap records_of (slots_cons d n (rest_of v))
      ∙ records_join (slots_at d n) (slots_of d (rest_of v))

pub used_met : (g : code.Geometry) (image : List ℕ) (w v : Sectors) (n : ℕ) → rest_of w ≡ n ∷ rest_of v
    → length (entries_left g image w) ≡ length (in_use (slots_at (sectors_of g image) n)) + length (entries_left g image v)
used_met g image w v n e =
    let d : Disc = sectors_of g image in
    ap length (left_met g image w v n e)
    ∙ length-append (in_use (slots_from d n 0)) (entries_left g image v)
    ∙ ap (λ (ss : List Slot). length (in_use ss) + length (entries_left g image v)) (sym (slots_all d n))

-- ---- how many

pub used_few : (d : Disc) (n : ℕ) → length (in_use (slots_at d n)) ≤ slots_each
unfolding in_use slots_at
used_few d n = omega (arith, filter_parts free_slot (slots_at d n))

used_all : (d : Disc) (ns : List ℕ) → length (in_use (slots_of d ns)) ≤ slots_each * length ns
unfolding in_use slots_of
used_all d [] = omega arith
used_all d (n ∷ ns) =
    let both = ap length (in_use_join (slots_at d n) (slots_of d ns)) in
    omega (arith, both, length-append (in_use (slots_at d n)) (in_use (slots_of d ns)), used_few d n, used_all d ns)

pub entries_few : {g : code.Geometry} {image : List ℕ} → Image g image → length (entries (geo g) (sectors_of g image)) ≤ slots_each * g.sectors
unfolding directory entries slots
entries_few {g} {image} im =
    let d : Disc = sectors_of g image in
    let few = met_few (geo g) d (sectors (geo g)) (directory_pointer (geo g) d) in
    omega (arith, im.valid.total, used_all d (directory (geo g) d), few)

-- ---- how many bytes

-- the slots of an image have nine name bytes each
abbrev Nine : Slot → Type 0
Nine s = length (name_of s) ≡ 9

one_long : (s : Slot) → Nine s → length (entry_record s) ≡ 13
one_long s e = omega (arith, length-append (name_of s ++ word (length_of s)) (attribute_of s ∷ []), length-append (name_of s) (word (length_of s)))

all_long : {ss : List Slot} → All Nine ss → length (joined (map entry_record ss)) ≡ 13 * length ss
all_long done = refl
all_long (◌also◌ {x = s} {xs = ss} h hs) = length-append (entry_record s) (joined (map entry_record ss)) ∙ omega (arith, one_long s h, all_long hs)

pub listing_parts : (G : Geometry) (d : Disc) → listing G d ≡ disc_record d ++ (records_of (slots G d) ++ 0 ∷ [])
unfolding listing entries records_of
listing_parts G d = append_assoc (disc_record d) (records_of (slots G d)) (0 ∷ [])

module _ {g : code.Geometry} {image : List ℕ} (im : Image g image) where
  names_nine : All Nine (slots (geo g) (sectors_of g image))
  unfolding slots slots_of slots_at directory
  names_nine =
      let d : Disc = sectors_of g image in
      all_joined (all_map (λ n on. all_mapped (slot_at d n) (range_all 0 slots_each (λ i l h. name_nine im n i (omega (arith, im.valid.total)) h)))
      (met_below (geo g) d (sectors (geo g)) (directory_pointer (geo g) d) (pointed_on (geo g) _ _)))

  disc_nine : length (disc_name_of (sectors_of g image)) ≡ 9
  disc_nine =
      let system : List ℕ = sector (sectors_of g image) 0 in
      let long = sector_full (image_full im) 0 (omega (arith, im.valid.total)) in
      length-take-le 9 (drop disc_name_offset system) (omega (arith, length-drop disc_name_offset system))

  pub disc_long : length (disc_record (sectors_of g image)) ≡ 14
  disc_long =
      let d : Disc = sectors_of g image in
      let counts = length-append (disc_name_of d ++ word (free_count d)) (word (used_count d)) in
      omega (arith, disc_nine, counts, length-append (disc_name_of d) (word (free_count d)))

  pub entry_long : (n i : ℕ) → n < g.sectors → i < slots_each → length (entry_record (slot_at (sectors_of g image) n i)) ≡ 13
  entry_long n i on h = one_long (slot_at (sectors_of g image) n i) (name_nine im n i on h)

  pub listing_long : length (listing (geo g) (sectors_of g image)) ≡ 14 + 13 * length (entries (geo g) (sectors_of g image)) + 1
  unfolding entries records_of in_use
  listing_long =
      let G = geo g in
      let d : Disc = sectors_of g image in
      ap length (listing_parts G d)
      ∙ length-append (disc_record d) (records_of (slots G d) ++ 0 ∷ [])
      ∙ omega (arith, disc_long, length-append (records_of (slots G d)) (0 ∷ []), all_long (all_filter (λ s. not (free_slot s)) names_nine))
