-- Laws of the loops that count and write entries, slot by slot and sector by sector. The loops cite others now; the laws stand, though no proof cites them.
-- Assumes nothing.
use Rattle.std.specs.Prelude.{◌≡◌, refl, ℕ, ◌+◌, ◌/◌, ◌%◌, ◌≤◌, ◌<◌}
use Rattle.std.proofs.Math.Path.{ap}
use Rattle.std.proofs.Common.{ap₂, ◌∙◌}
use mathlib.Core.List.{List, [], ◌∷◌, ◌++◌}
use Rattle.std.proofs.Math.ListN.{length, length-append}
use Rattle.lists.specs.Lists.{word}
use Rattle.format.specs.Geometry.{Geometry, Disc}
use Rattle.format.specs.Layout.{directory, slots, entries, slots_each, Slot, in_use, slot_at, slots_at, slots_of}
use Rattle.format.proofs.SlotLaws.{in_use_join}
use Rattle.slots.specs.InOrder.{slots_from, slots_next, slots_end}
use Rattle.directory.specs.Laws.{slots_none, slots_cons}
use Rattle.listing.specs.Meaning.{records_of}
use Rattle.listing.specs.Laws.{records_join}

-- ---- entries and records, slot by slot

module _ (d : Disc) where
  -- the slots of a sector from slot i on
  pub used_step : (n i : ℕ) → i < slots_each
      → length (in_use (slots_from d n i)) ≡ length (in_use (slot_at d n i ∷ [])) + length (in_use (slots_from d n (i + 1)))
  used_step n i h =
      ap (λ (ss : List Slot). length (in_use ss)) (slots_next d n i h)
      ∙ ap length (in_use_join (slot_at d n i ∷ []) (slots_from d n (i + 1)))
      ∙ length-append (in_use (slot_at d n i ∷ [])) (in_use (slots_from d n (i + 1)))

  pub used_end : (n i : ℕ) → slots_each ≤ i → length (in_use (slots_from d n i)) ≡ 0
  unfolding in_use
  used_end n i h = ap (λ (ss : List Slot). length (in_use ss)) (slots_end d n i h)

  -- the slots of a sector, and of those after it
  module _ (n : ℕ) (ns : List ℕ) where
    pub used_cons : length (in_use (slots_of d (n ∷ ns))) ≡ length (in_use (slots_at d n)) + length (in_use (slots_of d ns))
    used_cons =
        ap (λ (ss : List Slot). length (in_use ss)) (slots_cons d n ns)
        ∙ ap length (in_use_join (slots_at d n) (slots_of d ns))
        ∙ length-append (in_use (slots_at d n)) (in_use (slots_of d ns))

    pub records_cons : records_of (slots_of d (n ∷ ns)) ≡ records_of (slots_at d n) ++ records_of (slots_of d ns)
    records_cons = ap records_of (slots_cons d n ns) ∙ records_join (slots_at d n) (slots_of d ns)

  pub used_over : length (in_use (slots_of d [])) ≡ 0
  unfolding in_use
  used_over = ap (λ (ss : List Slot). length (in_use ss)) (slots_none d)

pub entries_are : (G : Geometry) (d : Disc) → entries G d ≡ in_use (slots_of d (directory G d))
unfolding entries slots
entries_are G d = refl

-- ---- the two bytes of a sixteen-bit number

pub two_bytes : {low high m n : ℕ} → low ≡ m % 256 → high ≡ m / 256 % 256 → m ≡ n → ◌≡◌ {A = List ℕ} (low ∷ high ∷ []) (word n)
two_bytes l h e = ap₂ (λ (x y : ℕ). x ∷ y ∷ []) l h ∙ ap word e
