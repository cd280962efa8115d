-- Rule 3: an entry's name, length and attribute, and the count of a directory sector.
-- Assumes nothing.
use Rattle.std.specs.Prelude.{◌≡◌, refl, ℕ, zero, suc, get_or, ◌+◌, ◌≤◌, ◌<◌, Bool, take, drop}
use Rattle.std.specs.List.{list_all, prefix_len}
use Rattle.std.proofs.Math.Path.{sym, ap, ap₂}
use Rattle.std.proofs.Common.{◌∙◌, arith, take-take, drop-drop, get_or-take, get_or-drop}
use Rattle.std.proofs.Math.Bool.{true, false, not, ◌&&◌, and-true, and-false}
use mathlib.Core.List.{List, [], ◌∷◌}
use Rattle.std.proofs.Math.ListN.{length}
use Rattle.std.proofs.Math.Seq.{slice}
use Rattle.std.proofs.Math.Dec.{eqb, leb}
use Rattle.std.proofs.lemmas.Bool.Decides.{nat_tests}
use Rattle.lists.specs.Lists.{all, byte}
use Rattle.lists.specs.ListLaws.{All, done, ◌also◌, drop_take, test_join, and_exchange}
use Rattle.format.specs.Geometry.{Geometry, Disc, sector}
use Rattle.format.specs.Layout.{slots_each, in_use_offset, is_attribute, Slot, free_slot, in_use, name_of, length_of, attribute_of, slot_at, slots_at, slots_of, directory, slots, entries}
use Rattle.format.proofs.SlotLaws.{in_use_join}
use Rattle.format.specs.Names.{letter, space, spaced, legal_stored}
use Rattle.format.specs.Check.{good_entry, counted, rule3}
use Rattle.byte_loops.specs.Laws.{all_equal}
use Rattle.slots.specs.InOrder.{use_next_free, use_next_used, use_over, slots_from, slots_all}

-- ---- letters, then spaces

-- all are spaces past the letters in front
abbrev spaces_past : List ℕ → Bool
spaces_past xs = list_all (λ b. eqb b space) (drop (prefix_len letter xs) xs)

pub spaced_tail : (xs : List ℕ) → spaces_past xs ≡ spaced xs
unfolding spaced
spaced_tail [] = refl
spaced_tail (x ∷ xs) = by (letter x) refl (spaced_tail xs)
  where
    by : (c : Bool) → letter x ≡ c → spaces_past xs ≡ spaced xs → spaces_past (x ∷ xs) ≡ spaced (x ∷ xs)
    by true e rest = let next : 1 + prefix_len letter xs ≡ suc (prefix_len letter xs) = omega arith in simp (e, next) rest
    by false e rest = simp e (all_equal space (x ∷ xs))

-- ---- the nine bytes of a name from byte a of an image on

module _ (image : List ℕ) (a : ℕ) where
  first_byte : byte image a ≡ byte (take 9 (drop a image)) 0
  first_byte = sym (get_or-take 9 (drop a image) 0 0 (omega arith) ∙ get_or-drop a image 0 0 ∙ ap (byte image) (omega arith))

  name_part : slice a (a + 6) image ≡ take 6 (take 9 (drop a image))
  name_part = drop_take a 6 image ∙ sym (take-take 6 9 (drop a image) (omega arith))

  extension_part : slice (a + 6) (a + 9) image ≡ drop 6 (take 9 (drop a image))
  extension_part =
      let e : a + 9 ≡ a + 6 + 3 = omega arith in
      ap (λ (k : ℕ). drop (a + 6) (take k image)) e
      ∙ drop_take (a + 6) 3 image
      ∙ ap (take 3) (sym (drop-drop 6 a image))
      ∙ sym (drop_take 6 3 (drop a image))

  pub legal_is : legal_stored (take 9 (drop a image)) ≡ letter (byte image a) && spaced (slice a (a + 6) image) && spaced (slice (a + 6) (a + 9) image)
  unfolding legal_stored
  legal_is =
      sym (ap₂ ◌&&◌ (ap₂ ◌&&◌ (ap letter first_byte) (ap spaced name_part)) (ap spaced extension_part))

-- an entry, by what is asked of its fields one after the other
pub entry_is : (s : Slot) {l : Bool} → l ≡ legal_stored (name_of s) → good_entry s ≡ l && not (eqb (length_of s) 0) && is_attribute (attribute_of s)
unfolding good_entry
entry_is s {l} named = ap₂ (λ (a b : Bool). a && b && is_attribute (attribute_of s)) (sym named) (some (length_of s))
  where
    some : (n : ℕ) → leb 1 n ≡ not (eqb n 0)
    some n = grind (arith, nat_tests)

-- ---- a directory sector

-- what rule 3 asks of directory sector n
unfoldable pub good_sector : Geometry → Disc → ℕ → Bool
good_sector G d n = counted G d n && all good_entry (in_use (slots_at d n))

-- the slots before slot i are passed: those in use are counted, and good
pub record Passed (d : Disc) (n i used : ℕ) : Type 0 where
  pub count : used + length (in_use (slots_from d n i)) ≡ length (in_use (slots_at d n))
  pub good : all good_entry (in_use (slots_from d n i)) ≡ all good_entry (in_use (slots_at d n))

pub passed_none : (d : Disc) (n : ℕ) → Passed d n 0 0
passed_none d n =
    record {
      count = omega (arith, ap (λ (ss : List Slot). length (in_use ss)) (slots_all d n));
      good = ap (λ (ss : List Slot). all good_entry (in_use ss)) (sym (slots_all d n));
    }

module _ {d : Disc} {n i used : ℕ} (p : Passed d n i used) where
  abbrev rest : List Slot
  rest = in_use (slots_from d n (i + 1))

  module _ (h : i < slots_each) where
    pub passed_free : free_slot (slot_at d n i) ≡ true → Passed d n (i + 1) used
    passed_free e =
        let left = use_next_free d n i h e in
        record { count = rw left at p.count; good = rw left at p.good }

    module _ (u : free_slot (slot_at d n i) ≡ false) where
      left : in_use (slots_from d n i) ≡ slot_at d n i ∷ rest
      left = use_next_used d n i h u

      pub passed_used : good_entry (slot_at d n i) ≡ true → Passed d n (i + 1) (used + 1)
      passed_used e =
          let more : used + suc (length rest) ≡ length (in_use (slots_at d n)) = rw left at p.count in
          record { count = omega arith; good = ap (λ (b : Bool). b && all good_entry rest) (sym e) ∙ (rw left at p.good) }

      pub entry_bad : (G : Geometry) → good_entry (slot_at d n i) ≡ false → false ≡ good_sector G d n
      unfolding good_sector
      entry_bad G e =
          let bad : all good_entry (in_use (slots_at d n)) ≡ false = sym p.good ∙ ap (all good_entry) left ∙ ap (λ (b : Bool). b && all good_entry rest) e in
          sym (ap (λ (b : Bool). counted G d n && b) bad ∙ and-false (counted G d n))

  pub passed_all : (G : Geometry) → slots_each ≤ i → (b : ℕ) → b ≡ byte (sector d n) in_use_offset → eqb b used ≡ good_sector G d n
  unfolding good_sector counted
  passed_all G h b e =
      let over = use_over d n i h in
      let all-used : used ≡ length (in_use (slots_at d n)) = omega (arith, p.count, ap (λ (ss : List Slot). length ss) over) in
      let all-good : all good_entry (in_use (slots_at d n)) ≡ true = sym p.good ∙ ap (all good_entry) over in
      sym (ap (λ (x : Bool). eqb (byte (sector d n) in_use_offset) (length (in_use (slots_at d n))) && x) all-good
      ∙ and-true (eqb (byte (sector d n) in_use_offset) (length (in_use (slots_at d n))))
      ∙ ap₂ eqb (sym e) (sym all-used))

-- ---- the directory

pub sectors_good : (G : Geometry) (d : Disc) (ns : List ℕ) → list_all (good_sector G d) ns ≡ all (counted G d) ns && all good_entry (in_use (slots_of d ns))
unfolding good_sector slots_of in_use
sectors_good G d [] = refl
sectors_good G d (n ∷ ns) =
    ap (λ (b : Bool). good_sector G d n && b) (sectors_good G d ns)
    ∙ and_exchange (counted G d n) (all good_entry (in_use (slots_at d n))) (all (counted G d) ns) (all good_entry (in_use (slots_of d ns)))
    ∙ ap (λ (b : Bool). counted G d n && all (counted G d) ns && b)
    (sym (ap (all good_entry) (in_use_join (slots_at d n) (slots_of d ns)) ∙ test_join good_entry (in_use (slots_at d n)) (in_use (slots_of d ns))))

-- the directory
pub rule3_is : (G : Geometry) (d : Disc) → list_all (good_sector G d) (directory G d) ≡ rule3 G d
unfolding rule3 entries slots
rule3_is G d = sectors_good G d (directory G d)

-- each of the sectors is one of the disc
pub each_below : {N : ℕ} {ns : List ℕ} → All (λ n. n < N) ns → (k n : ℕ) → k < length ns → n ≡ get_or ns k n → n < N
each_below done k n h e = absurd (omega arith)
each_below (here also rest) zero n h e = omega arith
each_below (here also rest) (suc k) n h e = each_below rest k n (omega arith) e
