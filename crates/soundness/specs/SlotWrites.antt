-- A directory sector of which one slot is written: its other bytes and slots stay, and so do the slots of the other sectors.
-- Assumes nothing.
use Rattle.std.specs.Prelude.{◌≡◌, ◌≢◌, ℕ, ◌+◌, ◌≤◌, ◌<◌, length, take, drop}
use Rattle.std.proofs.Common.{sym, ap₂, ◌∙◌, subst₂, arith, add-zero, length-drop, length-take-le}
use Rattle.std.proofs.Math.Path.{ap}
use Rattle.std.proofs.Math.Decide.{dec_le}
use mathlib.Core.List.{List, [], ◌∷◌}
use Rattle.std.proofs.Math.Seq.{sets, length-sets}
use Rattle.lists.specs.Lists.{times, byte}
use Rattle.lists.specs.OneChanged.{OneChanged}
use Rattle.lists.specs.Stores.{get_d_sets_off, get_d_sets_in, drop_sets, part_sets, part_sets_in, sets_whole}
use Rattle.format.specs.Geometry.{Geometry, pointed, Disc, sector}
use Rattle.format.specs.Layout.{in_use_offset, slots_each, slot_start, Slot, slot_at, slots_at, slots_of}
use Rattle.format.specs.ChainLaws.{SameLink}
use Rattle.format.specs.Effects.{with_slot}
use Rattle.soundness.specs.Slots.{SlotOf, slot_bytes, change_at, change_of}

-- ---- the sector's bytes with xs stored from offset k of slot i on

module _ (sec : List ℕ) (i k : ℕ) (xs : List ℕ) (fit : k + length xs ≤ 16) where
  pub store_head : (j : ℕ) → j < 3 → byte (sets sec (slot_start i + k) xs) j ≡ byte sec j
  store_head j h = get_d_sets_off xs sec (slot_start i + k) j 0 (λ a. absurd (omega arith))

  pub store_others : (j : ℕ) → j ≢ i → slot_bytes (sets sec (slot_start i + k) xs) j ≡ slot_bytes sec j
  store_others j ne =
      elim (dec_le j i) [
        | yes a ↦ part_sets xs sec 16 (slot_start i + k) (slot_start j) (omega arith)
        | no a ↦ ap (take 16) (drop_sets xs sec (slot_start i + k) (slot_start j) (omega arith))
      ]

  pub store_here : slot_bytes (sets sec (slot_start i + k) xs) i ≡ sets (slot_bytes sec i) k xs
  store_here = part_sets_in xs sec 16 k (slot_start i) fit

-- ---- with the whole slot stored, and n entries in use

module _ (sec : List ℕ) (i n : ℕ) (xs : List ℕ) (sixteen : length xs ≡ 16) where
  counted_sec : List ℕ
  counted_sec = sets sec in_use_offset (n ∷ [])

  counted_length : length counted_sec ≡ length sec
  unfolding counted_sec
  counted_length = length-sets sec in_use_offset (n ∷ [])

  as_stored : with_slot sec i n xs ≡ sets counted_sec (slot_start i + 0) xs
  unfolding with_slot counted_sec
  as_stored = ap (λ (a : ℕ). sets (sets sec in_use_offset (n ∷ [])) a xs) (sym (add-zero (slot_start i)))

  pub with_slot_length : length (with_slot sec i n xs) ≡ length sec
  with_slot_length = ap length as_stored ∙ length-sets counted_sec (slot_start i + 0) xs ∙ counted_length

  pub with_slot_head : (j : ℕ) → j < 2 → byte (with_slot sec i n xs) j ≡ byte sec j
  unfolding counted_sec
  with_slot_head j h =
      ap (λ (r : List ℕ). byte r j) as_stored ∙ store_head counted_sec i 0 xs (omega arith) j (omega arith)
      ∙ get_d_sets_off (n ∷ []) sec in_use_offset j 0 (λ a. absurd (omega arith))

  pub with_slot_count : in_use_offset < length sec → byte (with_slot sec i n xs) in_use_offset ≡ n
  unfolding counted_sec
  with_slot_count h =
      ap (λ (r : List ℕ). byte r in_use_offset) as_stored ∙ store_head counted_sec i 0 xs (omega arith) in_use_offset (omega arith)
      ∙ get_d_sets_in (n ∷ []) sec in_use_offset 0 0 (omega arith) (omega arith)

  pub with_slot_others : (j : ℕ) → j ≢ i → slot_bytes (with_slot sec i n xs) j ≡ slot_bytes sec j
  unfolding counted_sec
  with_slot_others j ne =
      ap (λ (r : List ℕ). slot_bytes r j) as_stored ∙ store_others counted_sec i 0 xs (omega arith) j ne
      ∙ ap (take 16) (drop_sets (n ∷ []) sec in_use_offset (slot_start j) (omega arith))

  pub with_slot_here : slot_start i + 16 ≤ length sec → slot_bytes (with_slot sec i n xs) i ≡ xs
  with_slot_here h =
      ap (λ (r : List ℕ). slot_bytes r i) as_stored ∙ store_here counted_sec i 0 xs (omega arith)
      ∙ sets_whole (slot_bytes counted_sec i) xs
      (sixteen ∙ sym (length-take-le 16 (drop (slot_start i) counted_sec) (omega (arith, length-drop (slot_start i) counted_sec, counted_length))))

-- ---- the slots of the disc

-- a slot with other bytes
abbrev pub with_bytes : Slot → List ℕ → Slot
with_bytes s xs = record { home = s.home; index = s.index; bytes = xs }

-- from d to d' the directory sector of s keeps its link and its other slots; the slot has the bytes xs
pub record SlotChange (d d' : Disc) (s : Slot) (xs : List ℕ) : Type 0 where
  pub link : (j : ℕ) → j < 2 → byte (sector d' s.home) j ≡ byte (sector d s.home) j
  pub others : (j : ℕ) → j ≢ s.index → slot_bytes (sector d' s.home) j ≡ slot_bytes (sector d s.home) j
  pub here : slot_bytes (sector d' s.home) s.index ≡ xs

pub stored_change : (d d' : Disc) (s : Slot) (k : ℕ) (xs : List ℕ) → k + length xs ≤ 16 → s.bytes ≡ slot_bytes (sector d s.home) s.index
    → sector d' s.home ≡ sets (sector d s.home) (slot_start s.index + k) xs → SlotChange d d' s (sets s.bytes k xs)
stored_change d d' s k xs fit is at_home =
    record {
      link = λ j h. ap (λ (r : List ℕ). byte r j) at_home ∙ store_head (sector d s.home) s.index k xs fit j (omega arith);
      others = λ j ne. ap (λ (r : List ℕ). slot_bytes r j) at_home ∙ store_others (sector d s.home) s.index k xs fit j ne;
      here = ap (λ (r : List ℕ). slot_bytes r s.index) at_home ∙ store_here (sector d s.home) s.index k xs fit
          ∙ ap (λ (r : List ℕ). sets r k xs) (sym is);
    }

pub with_slot_change : (d d' : Disc) (s : Slot) (n : ℕ) (xs : List ℕ) → length xs ≡ 16 → length (sector d s.home) ≡ 256 → s.index < slots_each
    → sector d' s.home ≡ with_slot (sector d s.home) s.index n xs → SlotChange d d' s xs
with_slot_change d d' s n xs sixteen full index_low at_home =
    record {
      link = λ j h. ap (λ (r : List ℕ). byte r j) at_home ∙ with_slot_head (sector d s.home) s.index n xs sixteen j h;
      others = λ j ne. ap (λ (r : List ℕ). slot_bytes r j) at_home ∙ with_slot_others (sector d s.home) s.index n xs sixteen j ne;
      here = ap (λ (r : List ℕ). slot_bytes r s.index) at_home ∙ with_slot_here (sector d s.home) s.index n xs sixteen (omega arith);
    }

module _ {d d' : Disc} {dir : List ℕ} (s : Slot) {xs : List ℕ} (o : SlotOf d dir s) (c : SlotChange d d' s xs) where
  pub change_link : (G : Geometry) → SameLink G d d' s.home
  change_link G = ap₂ (λ (a b : ℕ). pointed G a b) (c.link 0 (omega arith)) (c.link 1 (omega arith))

  slot_now : slot_at d' s.home s.index ≡ with_bytes s xs
  unfolding slot_at
  slot_now = ap (with_bytes s) c.here

  pub change_sector : OneChanged (slots_at d s.home) (slots_at d' s.home) s (with_bytes s xs)
  change_sector =
      subst₂ (λ (a b : Slot). OneChanged (slots_at d s.home) (slots_at d' s.home) a b) (sym o.is) slot_now
      (change_at d d' s.home s.index o.index_low c.others)

  pub change_slots : times s.home dir ≡ 1 → ((m : ℕ) → 0 < times m dir → m ≢ s.home → sector d' m ≡ sector d m)
      → OneChanged (slots_of d dir) (slots_of d' dir) s (with_bytes s xs)
  change_slots once stay =
      subst₂ (λ (a b : Slot). OneChanged (slots_of d dir) (slots_of d' dir) a b) (sym o.is) slot_now
      (change_of d d' s.home s.index o.index_low c.others dir once stay)
