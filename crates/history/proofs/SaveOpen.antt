-- Save where a slot is free.
-- Assumes nothing.
use Rattle.std.specs.Prelude.{◌≡◌, ◌≢◌, ℕ, ◌+◌, ◌<◌, true, set}
use Rattle.std.proofs.Common.{sym, ◌∙◌, arith}
use Rattle.std.proofs.Math.Path.{ap, subst}
use Rattle.std.proofs.Math.Decide.{ℕ_discrete}
use mathlib.Core.List.{List, [], ◌∷◌, ◌++◌}
use Rattle.std.proofs.Math.ListN.{length, length-append}
use Rattle.lists.specs.Lists.{times, byte}
use Rattle.lists.specs.ListLaws.{times_none, all_at, at_all}
use Rattle.lists.specs.Counts.{OneOf}
use Rattle.lists.specs.OneChanged.{OneChanged}
use Rattle.format.specs.Geometry.{Geometry, sectors, Disc, sector}
use Rattle.format.specs.GeometryLaws.{Full}
use Rattle.format.proofs.GeometryLaws.{sector_other, sector_same, sector_full, full_set}
use Rattle.format.specs.Layout.{in_use_offset, Slot, free_slot, in_use, slots_of, link_of}
use Rattle.format.specs.ChainLaws.{SameLink}
use Rattle.format.proofs.ChainLaws.{chain_frame}
use Rattle.format.specs.Effects.{with_slot, entry_bytes}
use Rattle.soundness.specs.Slots.{change_filled, SlotOf, slots_same}
use Rattle.soundness.specs.SlotWrites.{with_slot_length, with_slot_count, with_bytes, SlotChange, with_slot_change, change_link, change_sector, change_slots}
use Rattle.format.specs.RuleLaws.{GoodEntry, Counted}
use Rattle.soundness.specs.Filed.{good_used, entries_of, chains_of}
use Rattle.soundness.specs.Laid.{laid_one}
use Rattle.soundness.specs.Found.{home_once, home_low, home_high}
use Rattle.history.proofs.NewEntry.{entry_length, new_entry_good}
use Rattle.history.proofs.SaveSectors.{Saving, saved_system, with_file, free_times, file_few, with_file_full, with_file_zero, with_file_other}
use Rattle.history.proofs.SaveFacts.{SaveFacts}

-- the disc that such a save leaves
abbrev pub saved_open : Geometry → Disc → (nine file : List ℕ) → List (List ℕ) → Slot → Disc
saved_open G d nine file bs s =
    set (with_file G d (file ++ []) file bs) s.home
    (with_slot (sector d s.home) s.index (byte (sector d s.home) in_use_offset + 1) (entry_bytes G nine file))

module _ {G : Geometry} {d : Disc} {dir frees nine file rest : List ℕ} {bs : List (List ℕ)} (v : Saving G d dir frees nine file [] rest bs)
    (s : Slot) (o : SlotOf d dir s) (unused : free_slot s ≡ true) where
  e : List ℕ
  e = entry_bytes G nine file

  s' : Slot
  s' = with_bytes s (entry_bytes G nine file)

  d₂ : Disc
  d₂ = with_file G d (file ++ []) file bs

  sec1 : List ℕ
  sec1 = with_slot (sector d s.home) s.index (byte (sector d s.home) in_use_offset + 1) (entry_bytes G nine file)

  d₃ : Disc
  d₃ = set d₂ s.home sec1

  taken_times : (n : ℕ) → times n frees ≡ times n file + times n rest
  taken_times n = omega (arith, free_times v n, times_none n)

  one : (n : ℕ) → OneOf (sectors G) n (times n dir) (times n (chains_of G d (entries_of d dir))) (times n frees)
  one n = laid_one v.laid n

  sixteen : length e ≡ 16
  unfolding e
  sixteen = entry_length G v.bounded nine file v.nine_long (file_few v)

  full_home : length (sector d s.home) ≡ 256
  full_home = sector_full v.full s.home (home_high v.laid.filed s o)

  -- ---- the sectors afterwards

  full₂ : Full G d₂
  unfolding d₂
  full₂ = with_file_full v

  at_home : sector d₃ s.home ≡ with_slot (sector d s.home) s.index (byte (sector d s.home) in_use_offset + 1) e
  unfolding d₃ sec1 e
  at_home = sector_same d₂ s.home sec1 (omega (arith, full₂.many, home_high v.laid.filed s o))

  at_file : (n : ℕ) → n ≢ s.home → sector d₃ n ≡ sector d₂ n
  unfolding d₃
  at_file n h = sector_other d₂ s.home n sec1 h

  at_other : (n : ℕ) → n ≢ s.home → n ≢ 0 → times n file ≡ 0 → sector d₃ n ≡ sector d n
  unfolding d₂
  at_other n h k j = at_file n h ∙ with_file_other v n k j

  at_zero : sector d₃ 0 ≡ saved_system G d (file ++ []) (length file)
  unfolding d₂
  at_zero = at_file 0 (λ w. omega (arith, home_low v.laid.filed s o)) ∙ with_file_zero v

  directory_stays : (n : ℕ) → 0 < times n dir → n ≢ s.home → sector d₃ n ≡ sector d n
  directory_stays n h ne = at_other n ne (λ w. omega (arith, (one n).low (omega arith))) (omega (arith, (one n).one, taken_times n))

  full₃ : Full G d₃
  unfolding d₃ sec1 e
  full₃ = full_set full₂ s.home sec1 (with_slot_length (sector d s.home) s.index _ e sixteen ∙ full_home)

  -- ---- the slots

  change : SlotChange d d₃ s e
  change = with_slot_change d d₃ s _ e sixteen full_home o.index_low at_home

  slots_changed : OneChanged (slots_of d dir) (slots_of d₃ dir) s s'
  unfolding s' e
  slots_changed = change_slots s o change (home_once v.laid.filed s o) directory_stays

  good' : GoodEntry s'
  unfolding s'
  good' = new_entry_good G v.bounded nine file v.nine_long (file_few v) s.home s.index v.legal v.some_file

  gained : (entries_of d dir ≡ in_use slots_changed.pre ++ in_use slots_changed.post)
      × (entries_of d₃ dir ≡ in_use slots_changed.pre ++ s' ∷ in_use slots_changed.post)
  gained = change_filled slots_changed unused (good_used s' good')

  links : (n : ℕ) → 0 < times n dir → SameLink G d d₃ n
  links n h =
      elim (ℕ_discrete n s.home) [
        | yes w ↦ subst (SameLink G d d₃) (sym w) (change_link s o change G)
        | no w ↦ ap (link_of G) (directory_stays n h w)
      ]

  counts' : (n : ℕ) → 0 < times n dir → Counted d n → Counted d₃ n
  unfolding s' e
  counts' n h c =
      elim (ℕ_discrete n s.home) [
        | yes w ↦
            let p = change_sector s o change in
            let q = change_filled p unused (good_used s' good') in
            let c' : Counted d s.home = subst (Counted d) w c in
            let was = ap length q.0 ∙ length-append (in_use p.pre) (in_use p.post) in
            let now = ap length q.1 ∙ length-append (in_use p.pre) (s' ∷ in_use p.post) in
            subst (Counted d₃) (sym w)
            (ap (λ (r : List ℕ). byte r in_use_offset) at_home ∙ with_slot_count (sector d s.home) s.index _ e sixteen (omega (arith, full_home))
            ∙ omega (arith, c', was, now))
        | no w ↦ rw (directory_stays n h w, slots_same d d₃ n (directory_stays n h w)) c
      ]

  pub open_facts : SaveFacts G d (saved_open G d nine file bs s) dir frees dir nine file [] rest bs s.home s.index
  unfolding d₃ d₂ sec1 e s'
  open_facts =
      record {
        full = full₃;
        pre = in_use slots_changed.pre;
        post = in_use slots_changed.post;
        before = gained.0;
        after = gained.1;
        directory_chain = chain_frame d₃ v.laid.filed.directory_chain (at_all dir links);
        some_directory = v.laid.filed.some_directory;
        in_use_counted = at_all dir (λ n k. counts' n k (all_at (Counted d) n v.laid.filed.in_use_counted k));
        at_system = at_zero;
        at_file = λ n k. at_file n (λ w. omega (arith, (one n).one, o.in_directory, taken_times n, ap (λ (j : ℕ). times j dir) w));
        stays = λ n k.
            at_other n (λ w. omega (arith, (one n).one, taken_times n, o.in_directory, ap (λ (j : ℕ). times j dir) w))
            (λ w. omega (arith, (one n).low (omega (arith, taken_times n)))) (omega (arith, (one n).one, taken_times n));
        moved = λ n. omega (arith, taken_times n);
      }

  -- the directory's sector, and those that stay
  pub open_home : sector (saved_open G d nine file bs s) s.home
      ≡ with_slot (sector d s.home) s.index (byte (sector d s.home) in_use_offset + 1) (entry_bytes G nine file)
  unfolding d₃ d₂ sec1 e
  open_home = at_home

  pub open_other : (n : ℕ) → n ≢ s.home → n ≢ 0 → times n file ≡ 0 → sector (saved_open G d nine file bs s) n ≡ sector d n
  unfolding d₃ d₂ sec1
  open_other = at_other
