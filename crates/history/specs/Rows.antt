-- Request g on a disc of one track, computed from the definitions: what the check reports of each cut and after its repair, what stands then, the order
-- and the bytes of the new chain, and where demand 3 speaks.
-- Assumes nothing.
use Rattle.std.specs.Prelude.{◌≡◌, refl, ℕ, ◌+◌, List, [], ◌∷◌, ◌++◌, map, take, drop, replicate}
use Rattle.std.proofs.lemmas.List.Edits.{sets}
use Rattle.lists.specs.Lists.{byte, range}
use Rattle.format.specs.Refusals.{◌>>=◌, ◌>>◌, refuse◌if◌, ◌or_refuse◌, number, value_or}
use Rattle.format.specs.Geometry.{ten, Geometry, tracked, geometry, pointed, place_of, sector_at, chunks, reordered, cut, flat}
use Rattle.format.specs.Names.{letter, letters, before_dot, after_dot, with_extension, stored, disc_name, spaced, legal_stored}
use Rattle.format.specs.Layout.{empty_slot, free_slot, in_use, slot_at, slots_at, slots_of, met, ends, directory, free, slots, entries, open_slot, find, file_chain, file_sectors, name_of}
use Rattle.format.specs.Modules.{Module, is_module, storable, sectors_for, first_body, later_body, later_bodies, bodies, guessed, plain}
use Rattle.format.specs.Check.{good_entry, differ, rule1, rule2, counted, rule3, rule4, good_chain, rule5, files_hold, rule6, rule7, rule8, broken}
use Rattle.format.specs.Effects.{with_slot, chained, system_write, entry_bytes, growth, needed, entry_writes, save_writes, delete_writes, reading, passing, version, blank_free, blank_system, blank_disc, unmet, repair_writes}
use Rattle.format.specs.Writes.{record_of, write_list, held_after}
use Rattle.format.specs.Calls.{save_before_on, save_on, delete_on, rename_on, protect_on, replay_on, repair_on, asked, changed, listed, blank, answer_by, change_answer_by, check_answer_by, after_check, after_save, after_delete, after_rename, after_protect, after_replay, after_repair, after_blank}
use Rattle.history.specs.History.{Command, step, accepted, entered, opening_book}
use Rattle.history.specs.Cuts.{Writing, save, delete, rename, writes_on, after_writing, cut_on, after_cut, is_done}
use Rattle.history.specs.Events.{Ledger, speaks, silent, waits, happens, after_command, pulled_book, after_pulled, after_repaired, after_new, followed, settled, ledger_after, Call, command, pulled, repair, replay, blank as blanked, event_of}

-- the disc `P` of one track, and the names `A` and `B`
one : Geometry
one = tracked ten 1

empty : List ℕ
empty = (after_blank ten (replicate 2560 0) (80 ∷ [])).image

name_a : List ℕ
name_a = 65 ∷ []

name_b : List ℕ
name_b = 66 ∷ []

-- a module of L bytes of 7
module_of : ℕ → Module
module_of L = record { page = 0; start = 0; transfer = 0; bytes = replicate L 7 }

save_a : Writing
save_a = save name_a (module_of 300)

room : List ℕ
room = replicate 1300 9

-- the disc with `A` on 0/7 and 0/10
with_a : List ℕ
with_a = (after_writing ten empty save_a room).image

-- for each cut of a command: the rule that the check reports, the one after the repair, and the first letters of what stands then
record Cuts : Type 0 where
  reported : List ℕ
  repaired : List ℕ
  standing : List (List ℕ)

cuts : List ℕ → Writing → (writes : ℕ) → Cuts
cuts image w n =
    let mended : ℕ → List ℕ = λ k. (after_repair ten (after_cut ten image w k).image).image in
    record {
      reported = map (λ k. (after_check ten (after_cut ten image w k).image).rule) (range 0 (n + 1));
      repaired = map (λ k. (after_check ten (mended k)).rule) (range 0 (n + 1));
      standing = map (λ k. map (λ s. byte (name_of s) 0) (entries one (cut ten one (mended k)))) (range 0 (n + 1));
    }

-- the free chain of the disc after a repair
rethreaded : List ℕ → List ℕ
rethreaded image = free one (cut ten one (after_repair ten image).image)

-- n bytes from an offset on of an image after a repair
mended_at : List ℕ → (place n : ℕ) → List ℕ
mended_at image k n = take n (drop k (after_repair ten image).image)

record Repairs : Type 0 where
  cut_save : cuts empty save_a 4 ≡ record {
    reported = 0 ∷ 7 ∷ 7 ∷ 7 ∷ 0 ∷ [];
    repaired = 0 ∷ 0 ∷ 0 ∷ 0 ∷ 0 ∷ [];
    standing = [] ∷ [] ∷ [] ∷ [] ∷ (65 ∷ []) ∷ [];
  }
  cut_delete : cuts with_a (delete name_a) 3 ≡ record {
    reported = 0 ∷ 7 ∷ 7 ∷ 0 ∷ [];
    repaired = 0 ∷ 0 ∷ 0 ∷ 0 ∷ [];
    standing = (65 ∷ []) ∷ [] ∷ [] ∷ [] ∷ [];
  }
  cut_rename : cuts with_a (rename name_a name_b) 1 ≡ record { reported = 0 ∷ 0 ∷ []; repaired = 0 ∷ 0 ∷ []; standing = (65 ∷ []) ∷ (66 ∷ []) ∷ [] }
  -- "every sector that is neither 0/1 nor met by the directory or a file .. in the order a blank disc uses"
  after_a_delete : rethreaded (after_cut ten with_a (delete name_a) 1).image ≡ (6 ∷ 9 ∷ 2 ∷ 5 ∷ 8 ∷ 1 ∷ 4 ∷ 7 ∷ [])
  beside_a_file : rethreaded with_a ≡ (2 ∷ 5 ∷ 8 ∷ 1 ∷ 4 ∷ 7 ∷ [])
  -- "ends it with zeros": the last link, 0/8, had the track byte 3
  end_zeroed : mended_at (sets empty 1792 (3 ∷ 0 ∷ [])) 1792 2 ≡ (0 ∷ 0 ∷ [])
  -- "no other byte changes": the link of 0/7 led off the disc; the bytes after it stay
  link_mended : mended_at (sets empty 1536 (5 ∷ 5 ∷ 229 ∷ 230 ∷ [])) 1536 4 ≡ (0 ∷ 10 ∷ 229 ∷ 230 ∷ [])
  -- "the free pointer (zeros if that is empty) and both counts": the disc is full, and its pointer led to a file
  none_free : mended_at (sets (after_writing ten empty (save name_a (module_of 2016)) (replicate 2591 9)).image 16 (7 ∷ 0 ∷ 4 ∷ 0 ∷ 9 ∷ 9 ∷ 9 ∷ 9 ∷ [])) 16 8
      ≡ (0 ∷ 0 ∷ 4 ∷ 0 ∷ 0 ∷ 0 ∷ 8 ∷ 0 ∷ [])
  -- "If one of rules 1 to 5 is broken, it answers 3, after 1."
  rule_6 : (after_repair ten (sets empty 1536 (5 ∷ 5 ∷ []))).number ≡ 0
  rule_1 : (after_repair ten (replicate 2560 0)).number ≡ 3
  rule_3 : (after_repair ten (sets empty 770 (1 ∷ []))).number ≡ 3
  wrong_size : (after_repair ten (replicate 2559 0)).number ≡ 1

repair_rows : Repairs
unfolding ◌>>=◌ ◌>>◌ refuse◌if◌ ◌or_refuse◌ number value_or ten geometry pointed place_of sector_at chunks reordered cut flat letter letters before_dot after_dot
    with_extension stored disc_name spaced legal_stored empty_slot free_slot in_use slot_at slots_at slots_of met ends directory free slots entries open_slot find
    file_chain file_sectors good_entry differ rule1 rule2 counted rule3 rule4 good_chain rule5 files_hold rule6 rule7 rule8 broken is_module storable sectors_for
    first_body later_body later_bodies bodies guessed plain with_slot chained system_write entry_bytes growth needed entry_writes save_writes delete_writes reading
    passing version blank_free blank_system blank_disc unmet repair_writes record_of write_list held_after save_before_on save_on delete_on rename_on protect_on replay_on
    repair_on asked changed listed blank answer_by change_answer_by check_answer_by after_check after_save after_delete after_rename after_protect after_replay after_repair
    after_blank writes_on after_writing cut_on after_cut is_done one empty name_a name_b module_of save_a room with_a cuts rethreaded mended_at
repair_rows =
    record {
      cut_save = refl;
      cut_delete = refl;
      cut_rename = refl;
      after_a_delete = refl;
      beside_a_file = refl;
      end_zeroed = refl;
      link_mended = refl;
      none_free = refl;
      rule_6 = refl;
      rule_1 = refl;
      rule_3 = refl;
      wrong_size = refl;
    }

-- ---- where demand 3 speaks

-- 1 where it speaks, 2 where it is silent, then the first letters of the book's files; 3 where it waits
shown : Ledger → List ℕ
shown (speaks s b) = 1 ∷ map (λ f. byte f.name 0) b.files
shown (silent s b) = 2 ∷ map (λ f. byte f.name 0) b.files
shown waits = 3 ∷ []

run_of : List ℕ → List Call → List ℕ
run_of image cs = shown (ledger_after ten one (settled ten one image waits) image (map (event_of ten) cs))

-- a delete of `A`, pulled after so many writes
pulled_delete : ℕ → Call
pulled_delete k = pulled (delete name_a) room k

save_b : Call
save_b = command (Command.save name_b (module_of 1) room)

record Speaks : Type 0 where
  -- "Demand 3 is silent from the cut to the repair; then .. its sum and history go on, the cut command counting as done or not done accordingly"
  silent_after_a_cut : run_of with_a (pulled_delete 1 ∷ []) ≡ (2 ∷ [])
  delete_done : run_of with_a (pulled_delete 1 ∷ repair ∷ []) ≡ (1 ∷ [])
  delete_not_done : run_of with_a (pulled_delete 0 ∷ repair ∷ []) ≡ (1 ∷ 65 ∷ [])
  save_not_done : run_of empty (pulled save_a room 3 ∷ repair ∷ []) ≡ (1 ∷ [])
  save_done : run_of empty (pulled save_a room 4 ∷ repair ∷ []) ≡ (1 ∷ 65 ∷ [])
  -- a refused command gave no list
  none_cut : run_of with_a (pulled (delete name_b) room 1 ∷ []) ≡ (1 ∷ 65 ∷ [])
  short : run_of empty (pulled save_a (replicate 1036 9) 1 ∷ []) ≡ (1 ∷ [])
  -- "commands between cut and repair by their answers as ever": refused with 3, and accepted
  refused_between : run_of with_a (pulled_delete 1 ∷ save_b ∷ repair ∷ []) ≡ (1 ∷ [])
  accepted_between : run_of with_a (pulled_delete 0 ∷ save_b ∷ repair ∷ []) ≡ (1 ∷ 66 ∷ 65 ∷ [])
  -- "any repair, also one without a cut, as no change"
  repair_alone : run_of with_a (repair ∷ []) ≡ (1 ∷ 65 ∷ [])
  -- "unless a replay, a blank disc .. came between", "anew from the next sound image": 0/1 with zeros breaks rule 1
  blank_between : run_of with_a (pulled_delete 1 ∷ blanked name_b ∷ []) ≡ (1 ∷ [])
  waits_for_sound : run_of with_a (replay (3 ∷ 0 ∷ 1 ∷ replicate 256 0 ++ 0 ∷ []) ∷ repair ∷ []) ≡ (3 ∷ [])

speaks_rows : Speaks
unfolding ◌>>=◌ ◌>>◌ refuse◌if◌ ◌or_refuse◌ number value_or ten geometry pointed place_of sector_at chunks reordered cut flat letter letters before_dot after_dot
    with_extension stored disc_name spaced legal_stored empty_slot free_slot in_use slot_at slots_at slots_of met ends directory free slots entries open_slot find
    file_chain file_sectors good_entry differ rule1 rule2 counted rule3 rule4 good_chain rule5 files_hold rule6 rule7 rule8 broken is_module storable sectors_for
    first_body later_body later_bodies bodies guessed plain with_slot chained system_write entry_bytes growth needed entry_writes save_writes delete_writes reading
    passing version blank_free blank_system blank_disc unmet repair_writes record_of write_list held_after save_before_on save_on delete_on rename_on protect_on replay_on
    repair_on asked changed listed blank answer_by change_answer_by check_answer_by after_check after_save after_delete after_rename after_protect after_replay after_repair
    after_blank writes_on after_writing cut_on after_cut is_done step accepted entered opening_book happens after_command pulled_book after_pulled after_repaired after_new
    followed settled ledger_after event_of one empty name_a name_b module_of save_a room with_a shown run_of pulled_delete save_b
speaks_rows =
    record {
      silent_after_a_cut = refl;
      delete_done = refl;
      delete_not_done = refl;
      save_not_done = refl;
      save_done = refl;
      none_cut = refl;
      short = refl;
      refused_between = refl;
      accepted_between = refl;
      repair_alone = refl;
      blank_between = refl;
      waits_for_sound = refl;
    }
