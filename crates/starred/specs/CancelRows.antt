-- Request h on small discs, computed from the definitions: each exception is a byte that really differs, and no other does; a wrong library changes one that
-- is not excepted, and so its image is not what the laws say.
-- Assumes nothing.
use Rattle.std.specs.Prelude.{◌≡◌, refl, ℕ, suc, ◌+◌, ◌*◌, ◌-◌, not, cond, List, [], ◌∷◌, ◌++◌, map, take, drop, replicate, eqb}
use Rattle.std.proofs.Common.{ap, arith}
use Rattle.std.proofs.lemmas.List.Edits.{sets}
use Rattle.lists.specs.Lists.{byte, elem, cons_if, range, joined}
use Rattle.format.specs.Refusals.{◌>>=◌, ◌>>◌, refuse◌if◌, ◌or_refuse◌, number, value_or}
use Rattle.format.specs.Geometry.{ten, Geometry, tracked, geometry, go, pointed, place_of, sector_at, chunks, reordered, Disc, sector, cut, flat, Write, written}
use Rattle.format.specs.Names.{letter, letters, before_dot, after_dot, with_extension, stored, disc_name, spaced, legal_stored}
use Rattle.format.specs.Layout.{name_offset, used_count, Slot, empty_slot, free_slot, in_use, slot_at, slots_at, slots_of, link_bytes, free_pointer, met, ends, directory, free, slots, entries, open_slot, find, first_of, file_chain, file_sectors}
use Rattle.format.specs.Modules.{is_module, storable, sectors_for, first_body, later_body, later_bodies, bodies}
use Rattle.format.specs.Check.{good_entry, differ, rule1, rule2, counted, rule3, rule4, good_chain, rule5, rule6, rule7, rule8, broken}
use Rattle.format.specs.Effects.{with_slot, with_link, entry_write, slot_write, head_of, chained, system_write, entry_bytes, growth, needed, entry_writes, save_writes, delete_writes, passing, version, blank_free, blank_system, blank_disc}
use Rattle.format.specs.Writes.{record_of, write_list}
use Rattle.format.specs.Calls.{save_before_on, save_on, delete_on, rename_on, asked, listed, blank, answer_by, change_answer_by, check_answer_by, after_check, after_save, after_delete, after_rename, after_blank}
use Rattle.history.specs.Demand3.{is_sound}
use Rattle.history.specs.Cancels.{file_took, excepted, Cancelled}
use Rattle.starred.specs.Examples.{text, blank_of, module_of, room_for}

one : Geometry
one = tracked ten 1

-- a blank disc that was in use: of its free sectors 170 stands after the links, and in the thirteen bytes of 0/4 that nothing uses; the end of the
-- free chain, 0/8, has the track byte 3
worn : List ℕ
worn =
    let d = cut ten one (blank_of 1) in
    let used : ℕ → List ℕ = λ n. cond (elem n (free one d)) (take 2 (sector d n) ++ replicate 254 170) (sector d n) in
    sets (sets (joined (map used (range 0 10))) 1792 (3 ∷ [])) 1011 (replicate 13 170)

-- the image after a save of L bytes as `A`, and after the delete
saved : ℕ → List ℕ
saved L = (after_save ten worn (text "A") (module_of 0 L) (room_for 10)).image

back : ℕ → List ℕ
back L = (after_delete ten (saved L) (text "A") (room_for 3)).image

-- ---- what differs

-- the offsets, from i on, where two images differ
differing : ℕ → List ℕ → List ℕ → List ℕ
differing i [] ys = []
differing i (x ∷ xs) [] = []
differing i (x ∷ xs) (y ∷ ys) = cons_if (not (eqb x y)) i (differing (suc i) xs ys)

-- where bytes 2 to 255 of a sector lie
body_of : ℕ → List ℕ
body_of n = range (256 * n + 2) 254

record Exceptions : Type 0 where
  start_sound : after_check ten worn ≡ is_sound
  -- 300 bytes take 0/7 and 0/10, sectors 6 and 9; the end keeps its track byte, at 1,792
  took_two : file_took one (cut ten one worn) (module_of 0 300) ≡ (6 ∷ 9 ∷ [])
  two_sectors : differing 0 worn (back 300) ≡ body_of 6 ++ body_of 9
  -- 2,016 bytes take all eight, and so reach it
  took_all : file_took one (cut ten one worn) (module_of 0 2016) ≡ (6 ∷ 9 ∷ 2 ∷ 5 ∷ 8 ∷ 1 ∷ 4 ∷ 7 ∷ [])
  reaches_the_end : differing 0 worn (back 2016)
      ≡ body_of 1 ++ body_of 2 ++ body_of 4 ++ body_of 5 ++ body_of 6 ++ 1792 ∷ body_of 7 ++ body_of 8 ++ body_of 9

exceptions : Exceptions
unfolding ◌>>=◌ ◌>>◌ refuse◌if◌ ◌or_refuse◌ number value_or ten geometry pointed place_of sector_at chunks reordered cut flat letter letters before_dot after_dot
    with_extension stored disc_name spaced legal_stored empty_slot free_slot in_use slot_at slots_at slots_of met ends directory free slots entries open_slot find
    file_chain file_sectors good_entry differ rule1 rule2 counted rule3 rule4 good_chain rule5 rule6 rule7 rule8 broken is_module storable sectors_for first_body
    later_body later_bodies bodies with_slot chained system_write entry_bytes growth needed entry_writes save_writes delete_writes passing version blank_free blank_system
    blank_disc record_of write_list save_before_on save_on delete_on asked listed blank answer_by change_answer_by check_answer_by after_check after_save after_delete
    after_blank file_took excepted one blank_of worn saved back differing body_of
exceptions = record { start_sound = refl; took_two = refl; two_sectors = refl; took_all = refl; reaches_the_end = refl }

-- ---- wrong libraries

-- what another delete leaves of the disc on which 300 bytes were saved as `A`, with its entry in the first slot of 0/4
deleted_by : (Disc → Slot → List Write) → List ℕ
deleted_by f = let d = cut ten one (saved 300) in flat ten one (written (f d (slot_at d 3 0)) d)

-- sector n with another link
relinked : Disc → ℕ → List ℕ → Write
relinked d n link = record { at = n; bytes = with_link (sector d n) link }

-- it threads the file's sectors behind the end of the free chain: the disc is sound, and all counts are right
behind : Disc → Slot → List Write
behind d s = entry_write d s 0 empty_slot ∷ relinked d 7 (link_bytes one (go 6)) ∷ system_write one d (free_pointer one d) 8 0 ∷ []

-- it clears the track byte of an end that the save did not reach: sound too
end_cleared : Disc → Slot → List Write
end_cleared d s = relinked d 7 (0 ∷ 0 ∷ []) ∷ delete_writes one d s

-- it clears the thirteen bytes: sound too
unused_cleared : Disc → Slot → List Write
unused_cleared d s = record { at = 3; bytes = replicate 256 0 } ∷ drop 1 (delete_writes one d s)

-- it does not lower byte 2
count_kept : Disc → Slot → List Write
count_kept d s = entry_write d s 1 empty_slot ∷ drop 1 (delete_writes one d s)

-- it clears the name alone
name_cleared : Disc → Slot → List Write
name_cleared d s = entry_write d s 0 (replicate 9 0 ++ drop 9 s.bytes) ∷ drop 1 (delete_writes one d s)

-- the used count stays
used_kept : Disc → Slot → List Write
used_kept d s = take 2 (delete_writes one d s) ++ system_write one d (first_of one s) 8 (used_count d) ∷ []

-- the file's last sector keeps its link
unlinked : Disc → Slot → List Write
unlinked d s = take 1 (delete_writes one d s) ++ drop 2 (delete_writes one d s)

-- a save that also clears the next free sector's bytes, and the right delete
next_cleared : List ℕ
next_cleared =
    let d = cut ten one (saved 300) in
    (after_delete ten (flat ten one (written (record { at = 2; bytes = take 2 (sector d 2) ++ replicate 254 0 } ∷ []) d)) (text "A") (room_for 3)).image

-- by the first law an image after both calls is not this one
Refused : List ℕ → Type 0
Refused image = Cancelled ten one worn (module_of 0 300) image → ⊥

record WrongDeletes : Type 0 where
  -- the delete itself
  right : deleted_by (delete_writes one) ≡ back 300
  behind_the_end : Refused (deleted_by behind)
  behind_sound : after_check ten (deleted_by behind) ≡ is_sound
  end_cleared_refused : Refused (deleted_by end_cleared)
  unused_cleared_refused : Refused (deleted_by unused_cleared)
  count_kept_refused : Refused (deleted_by count_kept)
  name_cleared_refused : Refused (deleted_by name_cleared)
  used_kept_refused : Refused (deleted_by used_kept)
  not_linked : Refused (deleted_by unlinked)
  next_cleared_refused : Refused next_cleared

-- at an offset that is not excepted: the free pointer, 0/8's track byte, the first of the thirteen, byte 2, the entry's length, the used count, the link of
-- 0/10, byte 2 of 0/3
wrong_deletes : WrongDeletes
unfolding ◌>>=◌ ◌>>◌ refuse◌if◌ ◌or_refuse◌ number value_or ten geometry pointed place_of sector_at chunks reordered cut flat letter letters before_dot after_dot
    with_extension stored disc_name spaced legal_stored empty_slot free_slot in_use slot_at slots_at slots_of met ends directory free slots entries open_slot find
    file_chain file_sectors good_entry differ rule1 rule2 counted rule3 rule4 good_chain rule5 rule6 rule7 rule8 broken is_module storable sectors_for first_body
    later_body later_bodies bodies with_slot chained system_write entry_bytes growth needed entry_writes save_writes delete_writes passing version blank_free blank_system
    blank_disc record_of write_list save_before_on save_on delete_on asked listed blank answer_by change_answer_by check_answer_by after_check after_save after_delete
    after_blank file_took excepted one blank_of worn saved back deleted_by relinked behind end_cleared unused_cleared count_kept name_cleared used_kept unlinked
    next_cleared Refused
wrong_deletes =
    record {
      right = refl;
      behind_the_end = λ c. let z : ◌≡◌ {A = ℕ} 3 7 = c.as_before 16 refl in omega arith;
      behind_sound = refl;
      end_cleared_refused = λ c. let z : ◌≡◌ {A = ℕ} 0 3 = c.as_before 1792 refl in omega arith;
      unused_cleared_refused = λ c. let z : ◌≡◌ {A = ℕ} 0 170 = c.as_before 1011 refl in omega arith;
      count_kept_refused = λ c. let z : ◌≡◌ {A = ℕ} 1 0 = c.as_before 770 refl in omega arith;
      name_cleared_refused = λ c. let z : ◌≡◌ {A = ℕ} 2 0 = c.as_before 780 refl in omega arith;
      used_kept_refused = λ c. let z : ◌≡◌ {A = ℕ} 2 0 = c.as_before 22 refl in omega arith;
      not_linked = λ c. let z : ◌≡◌ {A = ℕ} 0 3 = c.as_before 2305 refl in omega arith;
      next_cleared_refused = λ c. let z : ◌≡◌ {A = ℕ} 0 170 = c.as_before 514 refl in omega arith;
    }

-- ---- "needs no new directory sector": what differs where one is needed

two : Geometry
two = tracked ten 2

-- a disc of two tracks whose one directory sector is full: its files have a sector each, the first fifteen of a blank disc's free ones
crowded : List ℕ
crowded =
    let d = cut ten two (blank_of 2) in
    let files = take 15 (free two d) in
    let entry : ℕ → List ℕ = λ n. entry_bytes two ((65 + n) ∷ replicate 8 32) (n ∷ []) in
    flat ten two (written (
    record { at = 3; bytes = 0 ∷ 0 ∷ 15 ∷ joined (map entry files) ++ replicate 13 0 }
    ∷ system_write two d (head_of (drop 15 (free two d))) 3 15
    ∷ map (λ n. record { at = n; bytes = replicate 256 0 }) files) d)

regrown : List ℕ
regrown = (after_delete ten (after_save ten crowded (text "0") (module_of 0 1) (room_for 4)).image (text "0") (room_for 3)).image

record Growth : Type 0 where
  crowded_sound : after_check ten crowded ≡ is_sound
  needs_one : growth two (cut ten two crowded) ≡ 1
  not_as_before : Cancelled ten two crowded (module_of 0 1) regrown → ⊥

-- the directory's link leads to 1/5
growth_rows : Growth
unfolding ◌>>=◌ ◌>>◌ refuse◌if◌ ◌or_refuse◌ number value_or ten geometry pointed place_of sector_at chunks reordered cut flat letter letters before_dot after_dot
    with_extension stored disc_name spaced legal_stored empty_slot free_slot in_use slot_at slots_at slots_of met ends directory free slots entries open_slot find
    file_chain file_sectors good_entry differ rule1 rule2 counted rule3 rule4 good_chain rule5 rule6 rule7 rule8 broken is_module storable sectors_for first_body
    later_body later_bodies bodies with_slot chained system_write entry_bytes growth needed entry_writes save_writes delete_writes passing version blank_free blank_system
    blank_disc record_of write_list save_before_on save_on delete_on asked listed blank answer_by change_answer_by check_answer_by after_check after_save after_delete
    after_blank file_took excepted one blank_of worn two crowded regrown
growth_rows = record { crowded_sound = refl; needs_one = refl; not_as_before = λ c. let z : ◌≡◌ {A = ℕ} 5 0 = c.as_before 769 refl in omega arith }

-- ---- wrong renames

-- what another rename leaves of a disc of one track, of the entry in the slot i of 0/4
renamed_by : (Disc → Slot → List ℕ → List Write) → (i : ℕ) → (new : List ℕ) → List ℕ → List ℕ
renamed_by f i new image = let d = cut ten one image in flat ten one (written (f d (slot_at d 3 i) new) d)

-- it stores what was typed, and leaves what stood after it
unpadded : Disc → Slot → List ℕ → List Write
unpadded d s new = slot_write d s name_offset new ∷ []

-- it moves the entry to the other of the first two slots
moving : Disc → Slot → List ℕ → List Write
moving d s new =
    let cleared = with_slot (sector d 3) s.index 1 empty_slot in
    record { at = 3; bytes = with_slot cleared (1 - s.index) 1 (new ++ replicate 8 32 ++ drop 9 s.bytes) } ∷ []

record WrongRenames : Type 0 where
  -- "when C isn't A, and .. when C is A": there is no rename to the own name
  own_name : (after_rename ten (saved 300) (text "A") (text "A") (room_for 3)).number ≡ 5
  -- A to BB to C, and A to C
  not_padded : renamed_by unpadded 0 (text "C") (renamed_by unpadded 0 (text "BB") (saved 300)) ≡ renamed_by unpadded 0 (text "C") (saved 300) → ⊥
  -- A to BB to A
  not_the_start : renamed_by unpadded 0 (text "A") (renamed_by unpadded 0 (text "BB") (saved 300)) ≡ saved 300 → ⊥
  -- A to B to C, and A to C
  moved : renamed_by moving 1 (text "C") (renamed_by moving 0 (text "B") (saved 300)) ≡ renamed_by moving 0 (text "C") (saved 300) → ⊥
  moved_sound : after_check ten (renamed_by moving 0 (text "C") (saved 300)) ≡ is_sound

wrong_renames : WrongRenames
unfolding ◌>>=◌ ◌>>◌ refuse◌if◌ ◌or_refuse◌ number value_or ten geometry pointed place_of sector_at chunks reordered cut flat letter letters before_dot after_dot
    with_extension stored disc_name spaced legal_stored empty_slot free_slot in_use slot_at slots_at slots_of met ends directory free slots entries open_slot find
    file_chain file_sectors good_entry differ rule1 rule2 counted rule3 rule4 good_chain rule5 rule6 rule7 rule8 broken is_module storable sectors_for first_body
    later_body later_bodies bodies with_slot chained system_write entry_bytes growth needed entry_writes save_writes delete_writes passing version blank_free blank_system
    blank_disc record_of write_list save_before_on save_on delete_on rename_on asked listed blank answer_by change_answer_by check_answer_by after_check after_save after_delete
    after_rename after_blank file_took excepted one blank_of worn saved renamed_by unpadded moving
wrong_renames =
    record {
      own_name = refl;
      not_padded = λ e. let z : ◌≡◌ {A = ℕ} 66 32 = ap (λ (r : List ℕ). byte r 772) e in omega arith;
      not_the_start = λ e. let z : ◌≡◌ {A = ℕ} 66 32 = ap (λ (r : List ℕ). byte r 772) e in omega arith;
      moved = λ e. let z : ◌≡◌ {A = ℕ} 67 0 = ap (λ (r : List ℕ). byte r 771) e in omega arith;
      moved_sound = refl;
    }
