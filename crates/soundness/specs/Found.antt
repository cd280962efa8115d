-- What is known of the entry that `find` finds, of a name that it doesn't find, and of the slot that `open_slot` gives.
-- Assumes nothing.
use Rattle.std.specs.Prelude.{◌≡◌, ◌≢◌, true, drop}
use Rattle.std.proofs.Common.{sym, ◌∙◌, arith}
use Rattle.std.proofs.Math.Path.{ap, ap₂}
use Prim.Native.Nat.{ℕ, ◌*◌, ◌≤◌, ◌<◌}
use Rattle.std.proofs.Math.Option.{none, some}
use mathlib.Core.List.{List, [], ◌∷◌, ◌++◌, map, head?}
use Rattle.std.proofs.Math.ListN.{length, length-drop}
use Rattle.std.proofs.Math.Seq.{length-take-le}
use Rattle.lists.specs.Lists.{same, filter, sum, times, last_or}
use Rattle.lists.specs.ListLaws.{all_filter, filter_all, filter_join, filter_yes, head_all, head_none, none_long, all_at, same_true, true_same}
use Rattle.lists.specs.Counts.{last_of, OneOf}
use Rattle.format.specs.Geometry.{Geometry, sectors, Disc, sector}
use Rattle.format.specs.GeometryLaws.{Full}
use Rattle.format.proofs.GeometryLaws.{sector_full}
use Rattle.format.specs.Layout.{slots_each, slot_start, Slot, free_slot, name_of, length_of, slot_at, slots_of, slots, open_slot, find, file_chain}
use Rattle.format.specs.NameCounts.{of_name, called}
use Rattle.format.proofs.NameCounts.{called_at, called_here}
use Rattle.soundness.specs.Slots.{is_used, in_use_all, in_use_used, in_use_many, SlotOf, slots_of_each, slots_many, slot_bytes}
use Rattle.format.specs.RuleLaws.{GoodEntry, GoodChain, Counted}
use Rattle.soundness.specs.Filed.{entries_of, chains_of, Filed, filed_one, directory_is, entries_are}
use Rattle.soundness.specs.Frames.{all_within, all_shorter}

-- ---- the directory sector of a slot

module _ {G : Geometry} {d : Disc} {dir : List ℕ} (f : Filed G d dir) (s : Slot) (o : SlotOf d dir s) where
  pub home_once : times s.home dir ≡ 1
  home_once = omega (arith, (filed_one f s.home).one, o.in_directory)

  pub home_low : 0 < s.home
  home_low = (filed_one f s.home).low (omega (arith, o.in_directory))

  pub home_high : s.home < sectors G
  home_high = (filed_one f s.home).high (omega (arith, o.in_directory))

  -- no file's sector
  pub home_apart : times s.home (chains_of G d (entries_of d dir)) ≡ 0
  home_apart = omega (arith, (filed_one f s.home).one, o.in_directory)

  pub home_counted : Counted d s.home
  home_counted = all_at (Counted d) s.home f.in_use_counted o.in_directory

  pub slot_length : Full G d → length s.bytes ≡ 16
  unfolding slot_at
  slot_length full =
      let sec : List ℕ = sector d s.home in
      ap (λ (t : Slot). length t.bytes) o.is
      ∙ length-take-le 16 (drop (slot_start s.index) sec)
      (omega (arith, length-drop (slot_start s.index) sec, sector_full full s.home home_high, o.index_low))

  pub slot_bytes_are : s.bytes ≡ slot_bytes (sector d s.home) s.index
  unfolding slot_at
  slot_bytes_are = ap (λ (t : Slot). t.bytes) o.is

-- ---- the entry of a name

pub record Found (G : Geometry) (d : Disc) (dir nine : List ℕ) (s : Slot) : Type 0 where
  pub slot_of : SlotOf d dir s
  pub used : is_used s ≡ true
  pub good : GoodEntry s
  pub file : GoodChain G d s
  pub name : name_of s ≡ nine
  pub within : (n : ℕ) → times n (file_chain G d s) ≤ times n (chains_of G d (entries_of d dir))
  pub shorter : length_of s ≤ sum (map length_of (entries_of d dir))

module _ {G : Geometry} {d : Disc} {dir : List ℕ} (f : Filed G d dir) where
  pub find_is : (nine : List ℕ) → find G d nine ≡ head? (of_name nine (entries_of d dir))
  unfolding find
  find_is nine = ap (λ (ss : List Slot). head? (of_name nine ss)) (entries_are f)

  pub found : {nine : List ℕ} {s : Slot} → find G d nine ≡ some s → Found G d dir nine s
  found {nine} {s} e =
      let e' : head? (of_name nine (entries_of d dir)) ≡ some s = sym (find_is nine) ∙ e in
      record {
        slot_of = head_all (SlotOf d dir) e' (all_filter _ (in_use_all (slots_of_each d dir)));
        used = head_all (λ s. is_used s ≡ true) e' (all_filter _ (in_use_used (slots_of d dir)));
        good = head_all GoodEntry e' (all_filter _ f.good_entries);
        file = head_all (GoodChain G d) e' (all_filter _ f.good_chains);
        name = same_true _ _ (head_all (λ s. same (name_of s) nine ≡ true) e' (filter_all _ (entries_of d dir)));
        within = head_all (λ t. (n : ℕ) → times n (file_chain G d t) ≤ times n (chains_of G d (entries_of d dir))) e'
            (all_filter _ (all_within G d (entries_of d dir)));
        shorter = head_all (λ t. length_of t ≤ sum (map length_of (entries_of d dir))) e' (all_filter _ (all_shorter (entries_of d dir)));
      }

  pub not_found : (nine : List ℕ) → find G d nine ≡ none → called nine (entries_of d dir) ≡ 0
  unfolding called
  not_found nine e = ap length (head_none (of_name nine (entries_of d dir)) (sym (find_is nine) ∙ e))

  -- an entry is the one of its name
  pub find_at : (pre post : List Slot) (t : Slot) (nine : List ℕ) → entries_of d dir ≡ pre ++ t ∷ post → name_of t ≡ nine → find G d nine ≡ some t
  unfolding called
  find_at pre post t nine e name =
      let none_before : called nine pre ≡ 0 =
      omega (arith, f.names_differ nine, ap (called nine) e, called_at nine pre post t, called_here nine t [] name) in
      find_is nine ∙ ap (λ (ss : List Slot). head? (of_name nine ss)) e
      ∙ ap head? (filter_join (λ (s : Slot). same (name_of s) nine) pre (t ∷ post)
      ∙ ap₂ (λ (a b : List Slot). a ++ b) (none_long (of_name nine pre) none_before) (filter_yes (λ (s : Slot). same (name_of s) nine) t post (true_same name)))

  -- no entry of a name
  pub find_none : (nine : List ℕ) → called nine (entries_of d dir) ≡ 0 → find G d nine ≡ none
  unfolding called
  find_none nine e = find_is nine ∙ ap head? (none_long (of_name nine (entries_of d dir)) e)

  -- ---- the first free slot

  open_is : open_slot G d ≡ head? (filter free_slot (slots_of d dir))
  unfolding open_slot slots
  open_is = ap (λ (ns : List ℕ). head? (filter free_slot (slots_of d ns))) (directory_is f)

  pub open_lies : {s : Slot} → open_slot G d ≡ some s → SlotOf d dir s × (free_slot s ≡ true)
  open_lies {s} e =
      let e' : head? (filter free_slot (slots_of d dir)) ≡ some s = sym open_is ∙ e in
      (head_all (SlotOf d dir) e' (all_filter _ (slots_of_each d dir)), head_all (λ s. free_slot s ≡ true) e' (filter_all free_slot (slots_of d dir)))

  -- the directory is full just where no slot is free
  pub open_none : open_slot G d ≡ none → length (entries_of d dir) ≡ slots_each * length dir
  open_none o =
      let e = head_none (filter free_slot (slots_of d dir)) (sym open_is ∙ o) in
      omega (arith, in_use_many (slots_of d dir), ap length e, slots_many d dir)

  pub open_some : (s : Slot) → open_slot G d ≡ some s → length (entries_of d dir) < slots_each * length dir
  open_some s o = omega (arith, in_use_many (slots_of d dir), slots_many d dir, some_long (filter free_slot (slots_of d dir)) (sym open_is ∙ o))
    where
      some_long : (xs : List Slot) → head? xs ≡ some s → 0 < length xs
      some_long [] e = let z : ◌≡◌ {A = ℕ} 0 1 = cc in absurd (omega arith)
      some_long (x ∷ xs) e = omega arith

-- ---- the last sector of a found file

module _ {G : Geometry} {d : Disc} {dir nine : List ℕ} (f : Filed G d dir) (s : Slot) (w : Found G d dir nine s) where
  pub file_some : 0 < length (file_chain G d s)
  file_some = omega (arith, w.file.as_long, w.good.some_sector)

  pub file_last : 0 < times (last_or 0 (file_chain G d s)) (file_chain G d s)
  file_last = last_of (file_chain G d s) file_some

  last_one : let last = last_or 0 (file_chain G d s) in OneOf (sectors G) last (times last dir) (times last (chains_of G d (entries_of d dir))) 0
  last_one = filed_one f (last_or 0 (file_chain G d s))

  pub last_low : 0 < last_or 0 (file_chain G d s)
  last_low = last_one.low (omega (arith, file_last, w.within (last_or 0 (file_chain G d s))))

  pub last_high : last_or 0 (file_chain G d s) < sectors G
  last_high = last_one.high (omega (arith, file_last, w.within (last_or 0 (file_chain G d s))))

  -- the three sectors that a delete writes are apart
  pub home_last : s.home ≢ last_or 0 (file_chain G d s)
  home_last e =
      let met = ap (λ (n : ℕ). times n (chains_of G d (entries_of d dir))) e in
      omega (arith, file_last, w.within (last_or 0 (file_chain G d s)), home_apart f s w.slot_of, met)
