-- Save where no slot is free: the directory grows by a sector.
-- Assumes nothing.
use Rattle.std.specs.Prelude.{◌≡◌, ◌≢◌, ℕ, ◌+◌, ◌<◌, set, take}
use Rattle.std.proofs.Math.Path.{refl, sym, ap, ap₂}
use Rattle.std.proofs.Common.{◌∙◌, arith}
use Rattle.std.proofs.Math.Decide.{ℕ_discrete}
use mathlib.Core.List.{List, [], ◌∷◌, ◌++◌, append-nil}
use Rattle.std.proofs.Math.ListN.{length, length-append}
use Rattle.std.proofs.Math.Seq.{length-sets}
use Rattle.lists.specs.Lists.{joined, times, last_or, byte}
use Rattle.lists.specs.ListLaws.{done, ◌also◌, all_join, map_same, times_none, times_join, times_here, all_at, at_all, joined_join}
use Rattle.lists.specs.Counts.{last_of, OneOf}
use Rattle.lists.specs.Stores.{get_d_sets_off, drop_sets}
use Rattle.format.specs.Geometry.{Geometry, sectors, go, Disc, sector}
use Rattle.format.specs.GeometryLaws.{Full}
use Rattle.format.proofs.GeometryLaws.{sector_other, sector_same, sector_full, full_set}
use Rattle.format.specs.Layout.{link_offset, in_use_offset, slot_start, Slot, in_use, slots_at, slots_of, link_bytes, link_of, directory_pointer}
use Rattle.format.specs.ChainLaws.{Chain, end, on}
use Rattle.format.proofs.ChainLaws.{chain_join}
use Rattle.format.specs.Effects.{with_link, entry_bytes}
use Rattle.format.proofs.SlotLaws.{in_use_join}
use Rattle.soundness.specs.Slots.{slot_bytes, slots_by}
use Rattle.format.specs.RuleLaws.{GoodEntry, Counted}
use Rattle.soundness.specs.Filed.{good_used, entries_of, chains_of}
use Rattle.soundness.specs.Laid.{laid_one}
use Rattle.soundness.specs.Pointers.{to_sector, link_stored}
use Rattle.history.proofs.NewEntry.{entry_length, new_entry_good, new_directory, new_directory_length, new_directory_link, new_directory_count, new_directory_slots}
use Rattle.history.proofs.SaveSectors.{Saving, saved_system, with_file, free_times, file_few, with_file_full, with_file_zero, with_file_other}
use Rattle.history.proofs.SaveFacts.{SaveFacts}

-- the disc that such a save leaves: the new directory sector is `new`, the old directory's last is `last`
abbrev pub saved_grown : Geometry → Disc → (nine file taken : List ℕ) (new last : ℕ) → List (List ℕ) → Disc
saved_grown G d nine file taken new last bs =
    set (set (with_file G d taken file bs) new (new_directory (entry_bytes G nine file))) last (with_link (sector d last) (link_bytes G (go new)))

module _ {G : Geometry} {d : Disc} {dir frees nine file rest : List ℕ} {new : ℕ} {bs : List (List ℕ)}
    (v : Saving G d dir frees nine file (new ∷ []) rest bs) where
  e : List ℕ
  e = entry_bytes G nine file

  s' : Slot
  s' = record { home = new; index = 0; bytes = entry_bytes G nine file }

  last : ℕ
  last = last_or 0 dir

  sec2 : List ℕ
  sec2 = with_link (sector d last) (link_bytes G (go new))

  d₂ : Disc
  d₂ = with_file G d (file ++ new ∷ []) file bs

  d₃ : Disc
  d₃ = set (set d₂ new (new_directory e)) last sec2

  taken_times : (n : ℕ) → times n frees ≡ times n file + times n (new ∷ []) + times n rest
  taken_times n = free_times v n

  one : (n : ℕ) → OneOf (sectors G) n (times n dir) (times n (chains_of G d (entries_of d dir))) (times n frees)
  one n = laid_one v.laid n

  sixteen : length e ≡ 16
  unfolding e
  sixteen = entry_length G v.bounded nine file v.nine_long (file_few v)

  one_new : times new (new ∷ []) ≡ 1
  one_new = omega (arith, times_here new new [] refl, times_none new)

  new_out : (times new file ≡ 0) × (times new dir ≡ 0) × (times new (chains_of G d (entries_of d dir)) ≡ 0) × (times new rest ≡ 0)
  new_out = omega (arith, (one new).one, taken_times new, one_new)

  new_low : 0 < new
  new_low = (one new).low (omega (arith, taken_times new, one_new))

  new_high : new < sectors G
  new_high = (one new).high (omega (arith, taken_times new, one_new))

  last_in_dir : 0 < times last dir
  unfolding last
  last_in_dir = last_of dir v.laid.filed.some_directory

  last_above : 0 < last
  last_above = (one last).low (omega (arith, last_in_dir))

  last_below : last < sectors G
  last_below = (one last).high (omega (arith, last_in_dir))

  new_last : new ≢ last
  new_last w = omega (arith, new_out.1, last_in_dir, ap (λ (k : ℕ). times k dir) w)

  -- ---- the sectors afterwards

  full₂ : Full G d₂
  unfolding d₂
  full₂ = with_file_full v

  full₂' : Full G (set d₂ new (new_directory e))
  full₂' = full_set full₂ new (new_directory e) (new_directory_length e sixteen)

  full_last : length (sector d last) ≡ 256
  full_last = sector_full v.full last last_below

  full₃ : Full G d₃
  unfolding d₃ sec2
  full₃ = full_set full₂' last sec2 (length-sets (sector d last) link_offset (link_bytes G (go new)) ∙ full_last)

  at_last : sector d₃ last ≡ sec2
  unfolding d₃
  at_last = sector_same (set d₂ new (new_directory e)) last sec2 (omega (arith, full₂'.many, last_below))

  at_new : sector d₃ new ≡ new_directory e
  unfolding d₃
  at_new = sector_other (set d₂ new (new_directory e)) last new sec2 new_last ∙ sector_same d₂ new (new_directory e) (omega (arith, full₂.many, new_high))

  at_file : (n : ℕ) → n ≢ new → n ≢ last → sector d₃ n ≡ sector d₂ n
  unfolding d₃
  at_file n h k = sector_other (set d₂ new (new_directory e)) last n sec2 k ∙ sector_other d₂ new n (new_directory e) h

  at_other : (n : ℕ) → n ≢ new → n ≢ last → n ≢ 0 → times n file ≡ 0 → sector d₃ n ≡ sector d n
  unfolding d₂
  at_other n h k i j = at_file n h k ∙ with_file_other v n i j

  at_zero : sector d₃ 0 ≡ saved_system G d (file ++ new ∷ []) (length file)
  unfolding d₂
  at_zero = at_file 0 (λ w. omega (arith, new_low)) (λ w. omega (arith, last_above)) ∙ with_file_zero v

  directory_stays : (n : ℕ) → 0 < times n dir → n ≢ last → sector d₃ n ≡ sector d n
  directory_stays n h ne =
      at_other n (λ w. omega (arith, new_out.1, ap (λ (k : ℕ). times k dir) w)) ne (λ w. omega (arith, (one n).low (omega arith)))
      (omega (arith, (one n).one, taken_times n))

  in_file : (n : ℕ) → 0 < times n file → sector d₃ n ≡ sector d₂ n
  in_file n h =
      at_file n (λ w. omega (arith, new_out.0, ap (λ (k : ℕ). times k file) w))
      (λ w. omega (arith, (one n).one, taken_times n, last_in_dir, ap (λ (k : ℕ). times k dir) w))

  -- ---- the directory

  dir_slots : (n : ℕ) → 0 < times n dir → slots_at d₃ n ≡ slots_at d n
  unfolding sec2
  dir_slots n h =
      slots_by d d₃ n (λ j.
      elim (ℕ_discrete n last) [
        | yes w ↦ ap (λ (k : ℕ). slot_bytes (sector d₃ k) j) w ∙ ap (λ (r : List ℕ). slot_bytes r j) at_last
            ∙ ap (take 16) (drop_sets (link_bytes G (go new)) (sector d last) link_offset (slot_start j) (omega arith))
            ∙ ap (λ (k : ℕ). slot_bytes (sector d k) j) (sym w)
        | no w ↦ ap (λ (r : List ℕ). slot_bytes r j) (directory_stays n h w)
      ])

  good' : GoodEntry s'
  unfolding s'
  good' = new_entry_good G v.bounded nine file v.nine_long (file_few v) new 0 v.legal v.some_file

  only : in_use (slots_at d₃ new) ≡ s' ∷ []
  unfolding s' e
  only = new_directory_slots e sixteen d₃ new at_new (good_used s' good')

  after : entries_of d₃ (dir ++ new ∷ []) ≡ entries_of d dir ++ s' ∷ []
  unfolding slots_of
  after =
      ap in_use (joined_join (slots_at d₃) dir (new ∷ [])
      ∙ ap₂ (λ (a : List (List Slot)) (b : List Slot). joined a ++ b) (map_same (at_all dir dir_slots)) (append-nil (slots_at d₃ new)))
      ∙ in_use_join (slots_of d dir) (slots_at d₃ new)
      ∙ ap (λ (r : List Slot). entries_of d dir ++ r) only

  counts' : (n : ℕ) → 0 < times n dir → Counted d n → Counted d₃ n
  unfolding sec2
  counts' n h c =
      elim (ℕ_discrete n last) [
        | yes w ↦ ap (λ (k : ℕ). byte (sector d₃ k) in_use_offset) w ∙ ap (λ (r : List ℕ). byte r in_use_offset) at_last
            ∙ get_d_sets_off (link_bytes G (go new)) (sector d last) link_offset in_use_offset 0 (λ a. omega arith)
            ∙ ap (λ (k : ℕ). byte (sector d k) in_use_offset) (sym w) ∙ c
        | no w ↦ ap (λ (r : List ℕ). byte r in_use_offset) (directory_stays n h w) ∙ c
      ]
      ∙ sym (ap (λ (r : List Slot). length (in_use r)) (dir_slots n h))

  count_new : Counted d₃ new
  count_new = ap (λ (r : List ℕ). byte r in_use_offset) at_new ∙ new_directory_count e sixteen ∙ sym (ap length only)

  directory_chain : Chain G d₃ (directory_pointer G d) (dir ++ new ∷ [])
  unfolding last sec2
  directory_chain =
      chain_join d₃ v.laid.filed.directory_chain v.laid.filed.some_directory (λ n h ne. ap (link_of G) (directory_stays n h ne))
      (omega (arith, (one last).one, last_in_dir))
      (ap (link_of G) at_last ∙ link_stored G v.bounded (sector d last) (to_sector new new_high) (omega (arith, full_last)))
      (on refl (end (ap (link_of G) at_new ∙ new_directory_link e sixteen G)))

  pub grown_facts : SaveFacts G d (saved_grown G d nine file (file ++ new ∷ []) new (last_or 0 dir) bs)
      dir frees (dir ++ new ∷ []) nine file (new ∷ []) rest bs new 0
  unfolding d₃ d₂ sec2 e s' last
  grown_facts =
      record {
        full = full₃;
        pre = entries_of d dir;
        post = [];
        before = sym (append-nil (entries_of d dir));
        after = after;
        directory_chain = directory_chain;
        some_directory = omega (arith, length-append dir (new ∷ []), v.laid.filed.some_directory);
        in_use_counted = all_join (at_all dir (λ n k. counts' n k (all_at (Counted d) n v.laid.filed.in_use_counted k))) (count_new also done);
        at_system = at_zero;
        at_file = in_file;
        stays = λ n k.
            at_other n
            (λ w. omega (arith, new_out.2, new_out.3, ap (λ (j : ℕ). times j (chains_of G d (entries_of d dir))) w, ap (λ (j : ℕ). times j rest) w))
            (λ w. omega (arith, (one n).one, taken_times n, last_in_dir, ap (λ (j : ℕ). times j dir) w))
            (λ w. omega (arith, (one n).low (omega (arith, taken_times n)))) (omega (arith, (one n).one, taken_times n));
        moved = λ n. omega (arith, taken_times n, times_join n dir (new ∷ []));
      }
