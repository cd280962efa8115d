-- Document 02, request m: lengths, sector numbers, and the blank disc of nine sectors a track with its free chain and what fits it, computed from the
-- definitions.
-- Assumes nothing.
use Rattle.std.specs.Prelude.{◌≡◌, refl, ℕ, ◌*◌, true, false, List, [], ◌∷◌, length, take, drop, replicate}
use Rattle.format.specs.Refusals.{SIZE, refused, ok, ◌>>=◌, ◌>>◌, refuse◌if◌, ◌or_refuse◌, number, value_or}
use Rattle.format.specs.Geometry.{Format, Geometry, Disc, ten, nine, stated, tracked, sectors, geometry, sector_number, on_disc, pointed, place_of, sector_at, start_of, chunks, reordered, cut, flat, sector}
use Rattle.format.specs.Names.{letter, letters, before_dot, after_dot, with_extension, stored, disc_name, spaced, legal_stored}
use Rattle.format.specs.Layout.{free_count, empty_slot, free_slot, in_use, slot_at, slots_at, slots_of, met, ends, directory, free, slots, entries, open_slot, find, file_chain, file_sectors}
use Rattle.format.specs.Check.{good_entry, differ, rule1, rule2, counted, rule3, rule4, good_chain, rule5, rule6, rule7, rule8, broken}
use Rattle.format.specs.Modules.{is_module, storable, sectors_for, first_body, later_body, later_bodies, bodies}
use Rattle.format.specs.Effects.{with_slot, chained, system_write, entry_bytes, growth, needed, entry_writes, save_writes, passing, version, blank_free, blank_system, blank_disc}
use Rattle.format.specs.Writes.{record_of, write_list}
use Rattle.format.specs.Calls.{save_before_on, save_on, asked, listed, blank, answer_by, change_answer_by, after_save, after_blank}
use Rattle.starred.specs.Examples.{text, module_of, room_for}

-- "9 sectors a track"
early : Format
early = stated 9 0

forty : Geometry
forty = tracked early 40

-- a blank disc `PIECES` of T tracks
blank_of : (tracks : ℕ) → List ℕ
blank_of T = (after_blank early (replicate (256 * sectors (tracked early T)) 0) (text "PIECES")).image

blank40 : Disc
blank40 = cut early forty (blank_of 40)

-- track and sector, written t/s in the document
infix 80 ◌/:◌
◌/:◌ : ℕ → ℕ → ℕ
t /: s = sector_number forty t s

record NineSectors : Type 0 where
  -- "Length can't decide: 40 tracks of 9 are as long as 36 of 10."
  as_nine : geometry early 92160 ≡ ok forty
  as_ten : geometry (stated 10 0) 92160 ≡ ok (tracked (stated 10 0) 36)
  -- "the length isn't 256 times that times 1 to 80 tracks"
  longest : geometry early 184320 ≡ ok (tracked early 80)
  too_long : geometry early 186624 ≡ refused SIZE
  no_track : geometry early 0 ≡ refused SIZE
  of_ten : geometry early 2560 ≡ refused SIZE
  -- "Sector numbers, what is on the disc .. have the stated number"
  number_1_1 : 1 /: 1 ≡ 9
  number_39_9 : 39 /: 9 ≡ 359
  starts_39_9 : start_of early forty (39 /: 9) ≡ 91904
  last_on : on_disc forty 39 9 ≡ true
  tenth_off : on_disc forty 0 10 ≡ false
  -- the blank disc: its pointers, its counts, and its free chain, by the links as they stand
  pointers : take 4 (drop 0x10 (sector blank40 (0 /: 1))) ≡ (0x07 ∷ 0x00 ∷ 0x04 ∷ 0x00 ∷ [])
  count_40 : free_count blank40 ≡ 358
  free_40 : length (free forty blank40) ≡ 358
  chain_begins : take 16 (free forty blank40)
      ≡ (0 /: 7 ∷ 0 /: 2 ∷ 0 /: 5 ∷ 0 /: 8 ∷ 0 /: 3 ∷ 0 /: 6 ∷ 0 /: 9
      ∷ 1 /: 1 ∷ 1 /: 4 ∷ 1 /: 7 ∷ 1 /: 2 ∷ 1 /: 5 ∷ 1 /: 8 ∷ 1 /: 3 ∷ 1 /: 6 ∷ 1 /: 9 ∷ [])
  first_link : take 2 (sector blank40 (0 /: 7)) ≡ (0x00 ∷ 0x02 ∷ [])
  to_next_track : take 2 (sector blank40 (1 /: 9)) ≡ (0x02 ∷ 0x01 ∷ [])
  last_link : take 2 (sector blank40 (39 /: 9)) ≡ (0x00 ∷ 0x00 ∷ [])
  -- T = 1: 7 free, where 245 + 6 * 253 bytes fit
  count_1 : free_count (cut early (tracked early 1) (blank_of 1)) ≡ 7
  fits_1763 : (after_save early (blank_of 1) (text "A") (module_of 0 1763) (room_for 9)).number ≡ 0
  room_1764 : (after_save early (blank_of 1) (text "A") (module_of 0 1764) []).number ≡ 8

nine_sectors : NineSectors
unfolding stated nine ten ◌>>=◌ ◌>>◌ refuse◌if◌ ◌or_refuse◌ number value_or geometry pointed place_of sector_at chunks reordered cut flat letter letters before_dot
    after_dot with_extension stored disc_name spaced legal_stored empty_slot free_slot in_use slot_at slots_at slots_of met ends directory free slots entries open_slot
    find file_chain file_sectors good_entry differ rule1 rule2 counted rule3 rule4 good_chain rule5 rule6 rule7 rule8 broken is_module storable sectors_for first_body
    later_body later_bodies bodies with_slot chained system_write entry_bytes growth needed entry_writes save_writes passing version blank_free blank_system blank_disc
    save_before_on save_on asked listed record_of write_list blank answer_by change_answer_by after_save after_blank early forty blank_of blank40 ◌/:◌
nine_sectors =
    record {
      as_nine = refl;
      as_ten = refl;
      longest = refl;
      too_long = refl;
      no_track = refl;
      of_ten = refl;
      number_1_1 = refl;
      number_39_9 = refl;
      starts_39_9 = refl;
      last_on = refl;
      tenth_off = refl;
      pointers = refl;
      count_40 = refl;
      free_40 = refl;
      chain_begins = refl;
      first_link = refl;
      to_next_track = refl;
      last_link = refl;
      count_1 = refl;
      fits_1763 = refl;
      room_1764 = refl;
    }
