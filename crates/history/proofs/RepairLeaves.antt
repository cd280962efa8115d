-- Request g: a repair of a disc on which rules 1 to 5 hold leaves a laid disc, with the directory, the entries and the files that it had.
-- Assumes nothing.
use Rattle.std.specs.Prelude.{◌≡◌, ◌≢◌, Bool, set, take}
use Rattle.std.proofs.Math.Path.{refl, ap, ap₂}
use Rattle.std.proofs.Common.{sym, ◌∙◌}
use Prim.Native.Nat.{ℕ, zero, suc, ◌+◌, ◌-◌, ◌≤◌, ◌<◌}
use native.Mathlib.Omega.{arith}
use Rattle.std.proofs.Math.Decide.{ℕ_discrete}
use Rattle.std.proofs.Math.Bool.{not}
use mathlib.Core.List.{List, [], ◌∷◌, map, ◌++◌}
use Rattle.std.proofs.Math.ListN.{length, length-append, length-drop}
use Rattle.std.proofs.lemmas.List.{length-map}
use Rattle.lists.specs.Lists.{elem, filter, sum, times, last_or, byte, word_at, Once}
use Rattle.lists.specs.ListLaws.{zero_or, All, all_map, times_join, times_here, times_past, at_all, times_elem, none_elem, once_long, all_mapped}
use Rattle.lists.specs.Counts.{times_kept, times_lost, OneOf, one_of}
use Rattle.format.specs.Geometry.{Geometry, sectors, Disc, sector, written}
use Rattle.format.specs.GeometryLaws.{Full}
use Rattle.format.proofs.GeometryLaws.{sector_other, sector_same, sector_full, full_set}
use Rattle.format.specs.Layout.{free_offset, directory_offset, free_count_offset, used_count_offset, system, Slot, length_of, pair_at, pair_bytes, directory_pointer, entries, file_sectors}
use Rattle.format.specs.ChainLaws.{Chain}
use Rattle.format.specs.Effects.{body, head_of, chained, system_write, passing, unmet, repair_writes}
use Rattle.soundness.specs.Passing.{passed_once, passed_not}
use Rattle.soundness.specs.Filed.{entries_of, chains_of, Filed, filed_one, directory_is, entries_are}
use Rattle.soundness.specs.Laid.{Laid, free_is}
use Rattle.soundness.specs.Frames.{chains_sum}
use Rattle.soundness.specs.Pointers.{Bounded, Pointable, head_pointable}
use Rattle.soundness.specs.SystemWrites.{system_free, system_directory, system_freed, system_used, system_length, system_pair, system_others}
use Rattle.soundness.specs.ChainWrites.{chained_full, chained_other, chained_chain, chained_bodies, chained_ends}
use Rattle.history.specs.Cuts.{Threaded}
use Rattle.history.proofs.BookFiles.{files_of}
use Rattle.history.proofs.BlankLaid.{Passes}
use Rattle.history.proofs.FiledFrame.{frame_entries, frame_met, frame_filed, frame_files}

-- what a repair leaves
pub record RepairLeaves (G : Geometry) (d d' : Disc) (dir : List ℕ) : Type 0 where
  pub laid : Laid G d' dir (unmet G d)
  pub full : Full G d'
  pub same_entries : entries_of d' dir ≡ entries_of d dir
  pub same_files : files_of G d' dir ≡ files_of G d dir
  pub threaded : Threaded G d d'

module _ {G : Geometry} {d : Disc} {dir : List ℕ} (ps : Passes G) (f : Filed G d dir) (z : Full G d) where
  u : Bounded G
  u = ps.bounded

  files : List ℕ
  files = chains_of G d (entries_of d dir)

  frees : List ℕ
  frees = unmet G d

  -- ---- each sector is met once

  met : List ℕ
  met = 0 ∷ dir ++ files

  is_free : ℕ → Bool
  is_free n = not (elem n met)

  unmet_is : frees ≡ filter is_free (passing G)
  unfolding frees unmet is_free met files file_sectors
  unmet_is =
      ap₂ (λ (ns : List ℕ) (ss : List _). filter (λ n. not (elem n (0 ∷ ns ++ chains_of G d ss))) (passing G)) (directory_is f) (entries_are f)

  met_few : (n : ℕ) → times n met ≤ 1
  unfolding met files
  met_few n = f.apart n

  free_not : (n : ℕ) → 0 < times n met → times n frees ≡ 0
  unfolding is_free
  free_not n h = ap (times n) unmet_is ∙ times_lost is_free n (passing G) (ap not (times_elem n met h))

  free_all : (n : ℕ) → times n met ≡ 0 → times n frees ≡ times n (passing G)
  unfolding is_free
  free_all n h = ap (times n) unmet_is ∙ times_kept is_free n (passing G) (ap not (none_elem n met h))

  here : (n : ℕ) → n ≢ 0 → times n met ≡ times n dir + times n files
  unfolding met
  here n h = times_past n 0 (dir ++ files) h ∙ times_join n dir files

  one : (n : ℕ) → OneOf (sectors G) n (times n dir) (times n files) 0
  unfolding files
  one n = filed_one f n

  zero_met : times 0 met ≡ 1 + (times 0 dir + times 0 files)
  unfolding met
  zero_met = omega (arith, times_here 0 0 (dir ++ files) refl, times_join 0 dir files)

  all_at_once : (n : ℕ) → times n (dir ++ files ++ frees) ≡ times n dir + times n files + times n frees
  all_at_once n = omega (arith, times_join n (dir ++ files) frees, times_join n dir files)

  met_once : Once (sectors G) (dir ++ files ++ frees)
  met_once =
      record {
        inside = λ n h k.
            elim (ℕ_discrete (times n met) 0) [
              | yes e ↦ omega (arith, all_at_once n, here n (λ w. omega arith), free_all n e, passed_once G u.some_sector ps.once n k)
              | no e ↦ omega (arith, all_at_once n, here n (λ w. omega arith), met_few n, free_not n (omega arith))
            ];
        zeroth = omega (arith, all_at_once 0, zero_met, met_few 0, free_not 0 (omega (arith, zero_met)));
        outside = λ n h.
            elim (ℕ_discrete (times n dir + times n files) 0) [
              | yes e ↦ elim (ℕ_discrete (times n met) 0) [
                | yes w ↦ omega (arith, all_at_once n, free_all n w, passed_not G u.some_sector ps.once n h)
                | no w ↦ omega (arith, all_at_once n, free_not n (omega arith))
              ]
              | no e ↦ absurd (omega (arith, (one n).high (omega arith)))
            ];
      }

  -- ---- how many

  total : length dir + sum (map length_of (entries_of d dir)) + length frees ≡ sectors G - 1
  unfolding files
  total =
      omega (
        arith,
        once_long (sectors G) (dir ++ files ++ frees) met_once,
        length-append (dir ++ files) frees,
        length-append dir files,
        chains_sum (entries_of d dir) f.good_chains,
      )

  some_sectors : 0 < sectors G
  some_sectors = omega (arith, total, f.some_directory)

  -- a sector is one of the directory's, or of one file's, or of the free ones
  each : (n : ℕ) → OneOf (sectors G) n (times n dir) (times n files) (times n frees)
  each n = one_of dir files frees met_once n

  below : All (λ n. n < sectors G) frees
  below = at_all frees (λ n h. (each n).high (omega arith))

  not_system : times 0 frees ≡ 0
  not_system = zero_or (times 0 frees) (λ h. omega (arith, (each 0).low (omega arith)))

  to_free : Pointable G (head_of frees)
  to_free = head_pointable below

  -- ---- the disc

  used : ℕ
  used = sum (map length_of (entries G d))

  used_is : used ≡ sum (map length_of (entries_of d dir))
  unfolding used
  used_is = ap (λ (ss : List Slot). sum (map length_of ss)) (entries_are f)

  sys : List ℕ
  sys = (system_write G d (head_of frees) (length frees) used).bytes

  rests : List (List ℕ)
  rests = map (λ n. body (sector d n)) frees

  d₁ : Disc
  d₁ = set d 0 sys

  d' : Disc
  d' = written (chained G frees rests) d₁

  repaired_is : written (repair_writes G d) d ≡ d'
  unfolding d' d₁ sys rests used frees repair_writes system_write
  repaired_is = refl

  full_system : length (system d) ≡ 256
  full_system = sector_full z 0 some_sectors

  full₁ : Full G d₁
  unfolding d₁ sys
  full₁ = full_set z 0 sys (system_length G u d full_system (head_of frees) to_free (length frees) used)

  rests_full : All (λ b. length b ≡ 254) rests
  unfolding rests
  rests_full = all_mapped (λ n. body (sector d n)) (all_map (λ n h. length-drop 2 (sector d n) ∙ omega (arith, sector_full z n h)) below)

  full' : Full G d'
  unfolding d'
  full' = chained_full G frees below rests_full full₁

  at_zero : sector d' 0 ≡ sys
  unfolding d' d₁
  at_zero = chained_other G frees rests d₁ 0 not_system ∙ sector_same d 0 sys (omega (arith, some_sectors, z.many))

  at_other : (n : ℕ) → n ≢ 0 → times n frees ≡ 0 → sector d' n ≡ sector d n
  unfolding d' d₁
  at_other n h k = chained_other G frees rests d₁ n k ∙ sector_other d 0 n sys h

  threaded : Chain G d' (head_of frees) frees
  unfolding d' rests
  threaded =
      (chained_chain G u frees rests d₁ (sym (length-map frees (λ n. body (sector d n)))) below full₁.many (λ n. omega (arith, (each n).one))).0

  -- ---- what stays

  stays : (n : ℕ) → 0 < times n dir + times n (chains_of G d (entries_of d dir)) → sector d' n ≡ sector d n
  unfolding files
  stays n h = at_other n (λ e. omega (arith, (each n).low (omega arith))) (omega (arith, (each n).one))

  pointer : directory_pointer G d' ≡ directory_pointer G d
  unfolding sys
  pointer = ap (λ (r : List ℕ). pair_at G r directory_offset) at_zero ∙ system_directory G d (head_of frees) (length frees) used

  laid' : Laid G d' dir frees
  unfolding sys files
  laid' =
      record {
        filed = frame_filed d' f pointer stays;
        free_chain = rw at_zero (rw (system_free G u d full_system (head_of frees) to_free (length frees) used) threaded);
        once = rw (frame_met d' f pointer stays) met_once;
        free_counted = ap (λ (r : List ℕ). word_at r free_count_offset) at_zero
            ∙ system_freed G u d full_system (head_of frees) to_free (length frees) used (omega (arith, total, u.few));
        used_counted = ap (λ (r : List ℕ). word_at r used_count_offset) at_zero
            ∙ system_used G u d full_system (head_of frees) to_free (length frees) used (omega (arith, total, used_is, u.few))
            ∙ used_is ∙ ap (λ (ss : List Slot). sum (map length_of ss)) (sym (frame_entries d' f pointer stays));
      }

  kept_bodies : (n : ℕ) → 0 < times n frees → body (sector d' n) ≡ body (sector d n)
  unfolding d' rests
  kept_bodies n h =
      chained_bodies G u (λ n. body (sector d n)) frees d₁ below full₁.many (λ n. omega (arith, (each n).one)) n h

  kept_system : (k : ℕ) → (free_offset ≤ k → free_offset + 2 ≤ k) → (free_count_offset ≤ k → free_count_offset + 4 ≤ k) → byte sys k ≡ byte (system d) k
  unfolding sys
  kept_system k h i = system_others G d (head_of frees) (length frees) used k h i

  ends : 0 < length frees → take 2 (sector d' (last_or 0 frees)) ≡ 0 ∷ 0 ∷ []
  unfolding d' rests
  ends h = chained_ends G frees rests d₁ (sym (length-map frees (λ n. body (sector d n)))) (all_map (λ n k. omega (arith, full₁.many)) below) h

  none_free : length frees ≡ 0 → (k : ℕ) → k < 2 → byte (sector d' 0) (free_offset + k) ≡ 0
  unfolding sys
  none_free h k few =
      ap (λ (r : List ℕ). byte r (free_offset + k)) at_zero
      ∙ system_pair G u d full_system (head_of frees) to_free (length frees) used k few ∙ zeros frees h k few
    where
      zeros : (ns : List ℕ) → length ns ≡ 0 → (k : ℕ) → k < 2 → byte (pair_bytes G (head_of ns)) k ≡ 0
      zeros [] e zero l = refl
      zeros [] e (suc zero) l = refl
      zeros [] e (suc (suc k)) l = absurd (omega arith)
      zeros (n ∷ ns) e k l = absurd (omega arith)

  threaded' : Threaded G d d'
  unfolding frees
  threaded' =
      record {
        chain = free_is laid';
        ended = ends;
        none_free = none_free;
        others_stay = at_other;
        bodies_stay = kept_bodies;
        system_stays = λ k h i. ap (λ (r : List ℕ). byte r k) at_zero ∙ kept_system k h i;
      }

  pub repaired : RepairLeaves G d (written (repair_writes G d) d) dir
  unfolding frees
  repaired =
      rw repaired_is (record {
        laid = laid';
        full = full';
        same_entries = frame_entries d' f pointer stays;
        same_files = frame_files d' f pointer stays;
        threaded = threaded';
      })
