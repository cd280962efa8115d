-- Document 01, 'Examples on the boundaries': the starred examples, one table under one statement, proved against the definitions.
-- Assumes nothing.
use Rattle.std.specs.Prelude.{◌≡◌, refl, ℕ, ◌*◌, List, [], ◌∷◌, map, length, take, drop, replicate}
use Prim.Native.Char.{code}
use Prim.Native.String.{String, [] as []ᵗ, ◌∷◌ as ◌∷ᵗ◌}
use Rattle.std.proofs.Common.{arith}
use Rattle.std.proofs.Math.Option.{some}
use Rattle.format.specs.Refusals.{◌>>=◌, ◌>>◌, refuse◌if◌, ◌or_refuse◌, number, value_or}
use Rattle.format.specs.Geometry.{Geometry, Disc, ten, tracked, geometry, sector_number, pointed, place_of, sector_at, chunks, reordered, cut, flat, sector}
use Rattle.format.proofs.GeometryLaws.{sector_cut}
use Rattle.format.proofs.Formats.{ten_good}
use Rattle.format.specs.Names.{letter, letters, before_dot, after_dot, with_extension, stored, disc_name, spaced, legal_stored}
use Rattle.format.specs.Layout.{free_count, empty_slot, free_slot, in_use, slot_at, slots_at, slots_of, met, ends, directory, free, slots, entries, open_slot, find, file_chain, file_sectors}
use Rattle.format.specs.Check.{good_entry, differ, rule1, rule2, counted, rule3, rule4, good_chain, rule5, rule6, rule7, rule8, broken}
use Rattle.format.specs.Modules.{Module, is_module, storable, sectors_for, first_body, later_body, later_bodies, bodies, guessed, plain}
use Rattle.format.specs.Effects.{with_slot, chained, system_write, entry_bytes, growth, needed, entry_writes, save_writes, delete_writes, reading, listing, passing, version, blank_free, blank_system, blank_disc}
use Rattle.format.specs.Writes.{record_of, write_list, list_size}
use Rattle.format.specs.Calls.{list_on, read_on, save_before_on, save_on, delete_on, rename_on, protect_on, asked, listed, blank, answer_by, change_answer_by, list_answer_by, read_answer_by, after_list, after_read, after_save, after_delete, after_rename, after_protect, after_blank}

-- ---- what the examples are about

-- the bytes of a text
abbrev pub text : String → List ℕ
text []ᵗ = []
text (c ∷ᵗ s) = code c ∷ text s

-- a blank disc `PIECES` of T tracks
unfoldable pub blank_of : (tracks : ℕ) → List ℕ
blank_of T = (after_blank ten (replicate (2560 * T) 0) (text "PIECES")).image

-- a module of L bytes on page 0
abbrev pub module_of : (start L : ℕ) → Module
module_of start L = record { page = 0; start = start; transfer = start; bytes = replicate L 7 }

-- a buffer for a list of n writes
abbrev pub room_for : ℕ → List ℕ
room_for n = replicate (list_size n) 0

-- what each call that takes a file name answers for this one
answers : List ℕ → List ℕ
answers name =
    (after_read ten (blank_of 1) name []).number
    ∷ (after_save ten (blank_of 1) name (module_of 0 1) []).number
    ∷ (after_delete ten (blank_of 1) name []).number
    ∷ (after_rename ten (blank_of 1) name (text "B") []).number
    ∷ (after_rename ten (blank_of 1) (text "B") name []).number
    ∷ (after_protect ten (blank_of 1) name 1 []).number
    ∷ []

-- the disc of 40 tracks with `THU.PCS` saved
after_thursday : List ℕ
after_thursday = (after_save ten (blank_of 40) (text "THU.PCS") (module_of 0x2000 300) (room_for 4)).image

forty : Geometry
forty = tracked ten 40

disc40 : Disc
disc40 = cut ten forty after_thursday

-- track and sector, written t/s in the document
infix 80 ◌/:◌
◌/:◌ : ℕ → ℕ → ℕ
t /: s = sector_number forty t s

-- ---- the table

record Starred : Type 0 where
  name_X : stored (text "X") ≡ some (text "X        ")
  names_differ : stored (text "ABC") ≡ stored (text "A.BC") → ⊥
  name_long : answers (text "SEVENCH") ≡ replicate 6 2
  name_dot : answers (text "X.") ≡ replicate 6 2
  name_only_dot : answers (text ".A") ≡ replicate 6 2
  name_empty : answers (text "") ≡ replicate 6 2
  takes_1 : sectors_for 1 ≡ 1
  takes_245 : sectors_for 245 ≡ 1
  takes_246 : sectors_for 246 ≡ 2
  takes_498 : sectors_for 498 ≡ 2
  takes_65536 : sectors_for 65536 ≡ 260
  starts_0_7 : (image : List ℕ) → sector (cut ten forty image) (0 /: 7) ≡ take 256 (drop 1536 image)
  starts_39_10 : (image : List ℕ) → sector (cut ten forty image) (39 /: 10) ≡ take 256 (drop 102144 image)
  free_40 : length (free forty (cut ten forty (blank_of 40))) ≡ 398
  count_40 : free_count (cut ten forty (blank_of 40)) ≡ 398
  free_1 : length (free (tracked ten 1) (cut ten (tracked ten 1) (blank_of 1))) ≡ 8
  count_1 : free_count (cut ten (tracked ten 1) (blank_of 1)) ≡ 8
  fits_2016 : (after_save ten (blank_of 1) (text "A") (module_of 0 2016) (room_for 10)).number ≡ 0
  room_2017 : (after_save ten (blank_of 1) (text "A") (module_of 0 2017) []).number ≡ 8
  chain_begins : take 10 (free forty (cut ten forty (blank_of 40)))
      ≡ (0 /: 7 ∷ 0 /: 10 ∷ 0 /: 3 ∷ 0 /: 6 ∷ 0 /: 9 ∷ 0 /: 2 ∷ 0 /: 5 ∷ 0 /: 8 ∷ 1 /: 1 ∷ 1 /: 4 ∷ [])
  saved_sectors : map (file_chain forty disc40) (entries forty disc40) ≡ ((0 /: 7 ∷ 0 /: 10 ∷ []) ∷ [])
  saved_end : take 2 (drop 6 (sector disc40 (0 /: 7))) ≡ (0x2B ∷ 0x21 ∷ [])
  read_end : (after_read ten after_thursday (text "THU.PCS") (replicate 300 0)).end ≡ 0x212B
  saved_pointer : take 2 (drop 0x10 (sector disc40 0)) ≡ (0x03 ∷ 0x00 ∷ [])
  saved_entry : take 16 (drop 3 (sector disc40 (0 /: 4)))
      ≡ (0x54 ∷ 0x48 ∷ 0x55 ∷ 0x20 ∷ 0x20 ∷ 0x20 ∷ 0x50 ∷ 0x43 ∷ 0x53 ∷ 0x02 ∷ 0x00 ∷ 0x07 ∷ 0x00 ∷ 0x0A ∷ 0x00 ∷ 0x00 ∷ [])
  list_28 : after_list ten after_thursday (replicate 28 0)
      ≡ record {
        number = 0;
        size = 28;
        buffer = 0x01 ∷ 0x50 ∷ 0x49 ∷ 0x45 ∷ 0x43 ∷ 0x45 ∷ 0x53 ∷ 0x20 ∷ 0x20 ∷ 0x20 ∷ 0x8C ∷ 0x01 ∷ 0x02 ∷ 0x00
            ∷ 0x02 ∷ 0x54 ∷ 0x48 ∷ 0x55 ∷ 0x20 ∷ 0x20 ∷ 0x20 ∷ 0x50 ∷ 0x43 ∷ 0x53 ∷ 0x02 ∷ 0x00 ∷ 0x00 ∷ 0x00 ∷ [];
      }

starred : Starred
unfolding ◌>>=◌ ◌>>◌ refuse◌if◌ ◌or_refuse◌ number value_or ten geometry pointed place_of sector_at chunks reordered cut flat letter letters before_dot after_dot
    with_extension stored disc_name spaced legal_stored empty_slot free_slot in_use slot_at slots_at slots_of met ends directory free slots entries open_slot find
    file_chain file_sectors good_entry differ rule1 rule2 counted rule3 rule4 good_chain rule5 rule6 rule7 rule8 broken is_module storable sectors_for first_body
    later_body later_bodies bodies guessed plain with_slot chained system_write entry_bytes growth needed entry_writes save_writes delete_writes reading listing passing
    version blank_free blank_system blank_disc list_on read_on save_before_on save_on delete_on rename_on protect_on asked listed record_of write_list blank answer_by
    change_answer_by list_answer_by read_answer_by after_list after_read after_save after_delete after_rename after_protect after_blank blank_of answers after_thursday forty
    disc40 ◌/:◌
starred =
    record {
      name_X = refl;
      names_differ = λ e. let z : ◌≡◌ {A = ℕ} 66 32 = cc in omega arith;
      name_long = refl;
      name_dot = refl;
      name_only_dot = refl;
      name_empty = refl;
      takes_1 = refl;
      takes_245 = refl;
      takes_246 = refl;
      takes_498 = refl;
      takes_65536 = refl;
      starts_0_7 = λ image. sector_cut ten forty ten_good.each_once image (0 /: 7) (omega arith);
      starts_39_10 = λ image. sector_cut ten forty ten_good.each_once image (39 /: 10) (omega arith);
      free_40 = refl;
      count_40 = refl;
      free_1 = refl;
      count_1 = refl;
      fits_2016 = refl;
      room_2017 = refl;
      chain_begins = refl;
      saved_sectors = refl;
      saved_end = refl;
      read_end = refl;
      saved_pointer = refl;
      saved_entry = refl;
      list_28 = refl;
    }
