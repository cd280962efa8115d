-- A new entry's sixteen bytes, and a new directory sector that holds it: what is read back.
-- Assumes nothing.
use Rattle.std.specs.Prelude.{◌≡◌, refl, ℕ, ◌+◌, ◌*◌, ◌-◌, ◌<◌, true, false, take, drop, replicate}
use Rattle.std.proofs.Common.{sym, ◌∙◌, take_at, get_or-append-add}
use Rattle.std.proofs.Math.Path.{ap, ap₂}
use native.Mathlib.Omega.{arith}
use Rattle.std.proofs.Math.Option.{none}
use mathlib.Core.List.{List, [], ◌∷◌, map, ◌++◌, append_assoc}
use Rattle.std.proofs.Math.ListN.{length, length-append}
use Rattle.lists.specs.Lists.{range, last_or, byte, word, word_at}
use Rattle.lists.specs.ListLaws.{All, range_all, all_mapped}
use Rattle.format.specs.Geometry.{Geometry, sectors, stop, go, pointed, Disc, sector}
use Rattle.format.proofs.GeometryLaws.{pointed_stop}
use Rattle.format.specs.Names.{legal_stored}
use Rattle.format.specs.Layout.{in_use_offset, slots_each, name_offset, length_offset, first_offset, last_offset, attribute_offset, attribute, is_attribute, Slot, free_slot, in_use, slot_at, slots_at, pair_at, pair_bytes, link_of}
use Rattle.format.specs.Effects.{with_slot, head_of, entry_bytes}
use Rattle.soundness.specs.Slots.{is_used, empty_free, in_use_one, in_use_none, slot_bytes, zeros_slot}
use Rattle.soundness.specs.SlotWrites.{with_slot_length, with_slot_head, with_slot_count, with_slot_others, with_slot_here}
use Rattle.format.specs.RuleLaws.{GoodEntry}
use Rattle.soundness.specs.Pointers.{Bounded, Pointable, to_sector, pair_back}

module _ (G : Geometry) (u : Bounded G) (nine ns : List ℕ) (long : length nine ≡ 9) (few : length ns < 65536) where
  after_name : List ℕ
  after_name = word (length ns) ++ pair_bytes G (head_of ns) ++ pair_bytes G (go (last_or 0 ns)) ++ attribute false ∷ []

  entry_is : entry_bytes G nine ns ≡ nine ++ after_name
  unfolding entry_bytes after_name
  entry_is = simp append_assoc

  at_after : (j : ℕ) → byte (entry_bytes G nine ns) (9 + j) ≡ byte after_name j
  at_after j = ap (λ (r : List ℕ). byte r (9 + j)) entry_is ∙ ap (λ (k : ℕ). byte (nine ++ after_name) (k + j)) (sym long) ∙ get_or-append-add nine after_name j 0

  pub entry_length : length (entry_bytes G nine ns) ≡ 16
  unfolding after_name
  entry_length = ap length entry_is ∙ omega (arith, length-append nine after_name)

  pub entry_name : take 9 (drop name_offset (entry_bytes G nine ns)) ≡ nine
  entry_name = ap (take 9) entry_is ∙ take_at nine after_name 9 long

  pub entry_count : word_at (entry_bytes G nine ns) length_offset ≡ length ns
  unfolding after_name
  entry_count = ap₂ (λ (a b : ℕ). a + 256 * b) (at_after 0) (at_after 1) ∙ omega arith

  pub entry_first : Pointable G (head_of ns) → pair_at G (entry_bytes G nine ns) first_offset ≡ head_of ns
  unfolding after_name
  entry_first h = ap₂ (λ (a b : ℕ). pointed G a b) (at_after 3) (at_after 2) ∙ pair_back G u h

  pub entry_last : last_or 0 ns < sectors G → pair_at G (entry_bytes G nine ns) last_offset ≡ go (last_or 0 ns)
  unfolding after_name
  entry_last h = ap₂ (λ (a b : ℕ). pointed G a b) (at_after 5) (at_after 4) ∙ pair_back G u (to_sector (last_or 0 ns) h)

  entry_attribute : byte (entry_bytes G nine ns) attribute_offset ≡ attribute false
  unfolding after_name
  entry_attribute = at_after 6

  pub new_entry_good : (home index : ℕ) → legal_stored nine ≡ true → 0 < length ns
      → GoodEntry (record { home = home; index = index; bytes = entry_bytes G nine ns })
  new_entry_good home index legal some_file =
      record { legal = ap legal_stored entry_name ∙ legal; some_sector = omega (arith, entry_count); attribute_right = ap is_attribute entry_attribute }

-- ---- a new directory sector with one entry

abbrev pub new_directory : List ℕ → List ℕ
new_directory e = with_slot (replicate 256 0) 0 1 e

module _ (e : List ℕ) (sixteen : length e ≡ 16) where
  pub new_directory_length : length (new_directory e) ≡ 256
  new_directory_length = with_slot_length (replicate 256 0) 0 1 e sixteen

  pub new_directory_link : (G : Geometry) → link_of G (new_directory e) ≡ stop
  new_directory_link G =
      ap₂ (λ (a b : ℕ). pointed G a b) (with_slot_head (replicate 256 0) 0 1 e sixteen 0 (omega arith))
      (with_slot_head (replicate 256 0) 0 1 e sixteen 1 (omega arith))
      ∙ pointed_stop G 0 0 refl

  pub new_directory_count : byte (new_directory e) in_use_offset ≡ 1
  new_directory_count = with_slot_count (replicate 256 0) 0 1 e sixteen (omega arith)

  -- the entry is the only slot in use
  pub new_directory_slots : (d : Disc) (n : ℕ) → sector d n ≡ new_directory e → is_used (record { home = n; index = 0; bytes = e }) ≡ true
      → in_use (slots_at d n) ≡ record { home = n; index = 0; bytes = e } ∷ []
  unfolding slots_at slot_at
  new_directory_slots d n at_n used =
      let first : slot_at d n 0 ≡ record { home = n; index = 0; bytes = e } =
      ap (λ (r : List ℕ). record { home = n; index = 0; bytes = r })
      (ap (λ (r : List ℕ). slot_bytes r 0) at_n ∙ with_slot_here (replicate 256 0) 0 1 e sixteen (omega arith)) in
      let none : All (λ t. free_slot t ≡ true) (map (slot_at d n) (range 1 (slots_each - 1))) =
      all_mapped (slot_at d n) (range_all 1 (slots_each - 1) (λ j a b.
      ap (λ (r : List ℕ). free_slot (record { home = n; index = j; bytes = r }))
      (ap (λ (r : List ℕ). slot_bytes r j) at_n ∙ with_slot_others (replicate 256 0) 0 1 e sixteen j (λ w. omega arith) ∙ zeros_slot j (omega arith))
      ∙ empty_free n j)) in
      in_use_one (slot_at d n 0) (map (slot_at d n) (range 1 (slots_each - 1))) (ap is_used first ∙ used)
      ∙ ap₂ (λ (a : Slot) (r : List Slot). a ∷ r) first (in_use_none none)
