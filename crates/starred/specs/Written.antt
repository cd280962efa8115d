-- Request e's lists, computed: the sectors of each list in order, the rest of the lent buffer, the room; and what the replayer takes.
-- Assumes nothing.
use Rattle.std.specs.Prelude.{◌≡◌, refl, ℕ, ◌+◌, ◌*◌, List, [], ◌∷◌, ◌++◌, map, take, drop, replicate}
use Rattle.lists.specs.Lists.{range}
use Rattle.format.specs.Refusals.{◌>>=◌, ◌>>◌, refuse◌if◌, ◌or_refuse◌, number, value_or}
use Rattle.format.specs.Geometry.{ten, geometry, pointed, place_of, sector_at, chunks, reordered, cut, flat, sector}
use Rattle.format.specs.Names.{letter, letters, before_dot, after_dot, with_extension, stored, disc_name, spaced, legal_stored}
use Rattle.format.specs.Layout.{empty_slot, free_slot, in_use, slot_at, slots_at, slots_of, met, ends, directory, free, slots, entries, open_slot, find, file_chain, file_sectors}
use Rattle.format.specs.Check.{good_entry, differ, rule1, rule2, counted, rule3, rule4, good_chain, rule5, rule6, rule7, rule8, broken}
use Rattle.format.specs.Modules.{is_module, storable, sectors_for, first_body, later_body, later_bodies, bodies}
use Rattle.format.specs.Effects.{with_slot, chained, system_write, entry_bytes, growth, needed, entry_writes, save_writes, delete_writes, passing, version, blank_free, blank_system, blank_disc}
use Rattle.format.specs.Writes.{record_of, write_list, held_after}
use Rattle.format.specs.Calls.{save_before_on, save_on, delete_on, rename_on, protect_on, asked, listed, blank, answer_by, change_answer_by, after_save, after_delete, after_rename, after_protect, after_blank, ChangeAnswer, replay_on, changed, after_replay}
use Rattle.starred.specs.Examples.{text, module_of, blank_of}

-- `THU.PCS` saved on a disc of one track, lent so many bytes of 9 for the list
thursday : (room : ℕ) → ChangeAnswer
thursday room = after_save ten (blank_of 1) (text "THU.PCS") (module_of 0x2000 300) (replicate room 9)

-- the first three bytes of n records, and of what stands after them
heads : ℕ → ChangeAnswer → List (List ℕ)
heads n a = map (λ k. take 3 (drop (259 * k) a.buffer)) (range 0 (n + 1))

-- a record of this kind, track and sector
record_for : (kind track sector : ℕ) → List ℕ
record_for k t s = k ∷ t ∷ s ∷ replicate 256 5

record Written : Type 0 where
  -- "the system sector first, then the file's sectors in chain order; last the directory sector with the new entry"; "its rest unchanged"
  save_heads : heads 4 (thursday 1039) ≡ ((3 ∷ 0 ∷ 1 ∷ []) ∷ (3 ∷ 0 ∷ 7 ∷ []) ∷ (3 ∷ 0 ∷ 10 ∷ []) ∷ (3 ∷ 0 ∷ 4 ∷ []) ∷ (0 ∷ 9 ∷ 9 ∷ []) ∷ [])
  save_size : (thursday 1039).size ≡ 1037
  -- "A buffer that can't hold the list gives 10"
  save_exact : (thursday 1037).number ≡ 0
  save_short : (thursday 1036).number ≡ 10
  -- "the directory sector, the file's last sector, the system sector"
  delete_heads : heads 3 (after_delete ten (thursday 1037).image (text "THU.PCS") (replicate 780 9))
      ≡ ((3 ∷ 0 ∷ 4 ∷ []) ∷ (3 ∷ 0 ∷ 10 ∷ []) ∷ (3 ∷ 0 ∷ 1 ∷ []) ∷ (0 ∷ 9 ∷ 9 ∷ []) ∷ [])
  -- "the entry's directory sector, changed or not"
  rename_heads : heads 1 (after_rename ten (thursday 1037).image (text "THU.PCS") (text "FRI") (replicate 262 9)) ≡ ((3 ∷ 0 ∷ 4 ∷ []) ∷ (0 ∷ 9 ∷ 9 ∷ []) ∷ [])
  protect_heads : heads 1 (after_protect ten (thursday 1037).image (text "THU.PCS") 0 (replicate 262 9)) ≡ ((3 ∷ 0 ∷ 4 ∷ []) ∷ (0 ∷ 9 ∷ 9 ∷ []) ∷ [])
  -- what gives 14, each by itself, "after 1"
  another_kind : (after_replay ten (blank_of 1) (record_for 2 0 1 ++ 0 ∷ [])).number ≡ 14
  cut_record : (after_replay ten (blank_of 1) (take 258 (record_for 3 0 1))).number ≡ 14
  sector_11 : (after_replay ten (blank_of 1) (record_for 3 0 11 ++ 0 ∷ [])).number ≡ 14
  sector_0 : (after_replay ten (blank_of 1) (record_for 3 0 0 ++ 0 ∷ [])).number ≡ 14
  track_1 : (after_replay ten (blank_of 1) (record_for 3 1 1 ++ 0 ∷ [])).number ≡ 14
  no_end : (after_replay ten (blank_of 1) (record_for 3 0 1)).number ≡ 14
  no_byte : (after_replay ten (blank_of 1) []).number ≡ 14
  after_the_end : (after_replay ten (blank_of 1) (0 ∷ 0 ∷ [])).number ≡ 14
  wrong_size : (after_replay ten [] []).number ≡ 1
  -- what is a list: kind 0 alone, and a sector twice, of which the later one stands
  end_alone : (after_replay ten (blank_of 1) (0 ∷ [])).number ≡ 0
  twice : take 3 (drop 2304 (after_replay ten (blank_of 1) (3 ∷ 0 ∷ 10 ∷ replicate 256 6 ++ record_for 3 0 10 ++ 0 ∷ [])).image) ≡ (5 ∷ 5 ∷ 5 ∷ [])

written_rows : Written
unfolding ◌>>=◌ ◌>>◌ refuse◌if◌ ◌or_refuse◌ number value_or ten geometry pointed place_of sector_at chunks reordered cut flat letter letters before_dot after_dot
    with_extension stored disc_name spaced legal_stored empty_slot free_slot in_use slot_at slots_at slots_of met ends directory free slots entries open_slot find
    file_chain file_sectors good_entry differ rule1 rule2 counted rule3 rule4 good_chain rule5 rule6 rule7 rule8 broken is_module storable sectors_for first_body
    later_body later_bodies bodies with_slot chained system_write entry_bytes growth needed entry_writes save_writes delete_writes passing version blank_free blank_system
    blank_disc save_before_on save_on delete_on rename_on protect_on asked listed record_of write_list blank answer_by change_answer_by after_save after_delete after_rename
    after_protect after_blank held_after replay_on changed after_replay thursday heads record_for blank_of
written_rows =
    record {
      save_heads = refl;
      save_size = refl;
      save_exact = refl;
      save_short = refl;
      delete_heads = refl;
      rename_heads = refl;
      protect_heads = refl;
      another_kind = refl;
      cut_record = refl;
      sector_11 = refl;
      sector_0 = refl;
      track_1 = refl;
      no_end = refl;
      no_byte = refl;
      after_the_end = refl;
      wrong_size = refl;
      end_alone = refl;
      twice = refl;
    }
