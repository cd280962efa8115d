-- What is to be shown of a save, whether or not the directory grows; from it the disc is laid, and the book has one file more.
-- Assumes nothing.
use Rattle.std.specs.Prelude.{◌≡◌, ℕ, ◌+◌, ◌≤◌, ◌<◌, length}
use Rattle.std.proofs.Math.Path.{sym, ap}
use Rattle.std.proofs.Common.{◌∙◌}
use native.Mathlib.Omega.{arith}
use mathlib.Core.List.{List, [], ◌∷◌, map, ◌++◌, map-append}
use Rattle.lists.specs.Lists.{sum, times, last_or, Once}
use Rattle.lists.specs.ListLaws.{All, ◌also◌, all_join, all_left, all_right, map_same, all_at, at_all, equal, unequal, same_or_not}
use Rattle.lists.specs.Counts.{last_of, once_parts, once_apart}
use Rattle.format.specs.Geometry.{Geometry, sectors, go, Disc, sector}
use Rattle.format.specs.GeometryLaws.{Full}
use Rattle.format.specs.Layout.{Slot, name_of, length_of, link_of, directory_pointer, first_of, file_chain}
use Rattle.format.specs.ChainLaws.{Chain, SameLink}
use Rattle.format.proofs.ChainLaws.{chain_met, chain_frame}
use Rattle.format.specs.Modules.{plain}
use Rattle.format.specs.Effects.{body, entry_bytes, reading}
use Rattle.history.specs.History.{File}
use Rattle.format.specs.NameCounts.{called}
use Rattle.format.proofs.NameCounts.{called_none, called_join, called_at, called_here, called_past}
use Rattle.format.specs.RuleLaws.{GoodEntry, GoodChain, Counted}
use Rattle.soundness.specs.Filed.{entries_of, chains_of}
use Rattle.soundness.specs.Laid.{Laid}
use Rattle.soundness.specs.Frames.{files_frame, chains_join, chains_at, lengths_join, lengths_at, laid_sum}
use Rattle.soundness.specs.Pointers.{head_pointable}
use Rattle.history.proofs.BookFiles.{file_of, files_of, file_of_frame}
use Rattle.history.proofs.NewEntry.{entry_name, entry_count, entry_first, entry_last, new_entry_good}
use Rattle.history.proofs.SaveSectors.{Saving, saved_system, with_file, free_length, file_below, rest_chain, file_few, with_file_chain, saved_free, saved_directory, saved_freed, saved_used}

-- the new entry
abbrev pub new_slot : Geometry → (nine file : List ℕ) (home index : ℕ) → Slot
new_slot G nine file home index = record { home = home; index = index; bytes = entry_bytes G nine file }

pub record SaveFacts (G : Geometry) (d d' : Disc) (dir frees dir' nine file extra rest : List ℕ) (bs : List (List ℕ)) (home index : ℕ) : Type 0 where
  pub full : Full G d'
  -- one entry more
  pub pre : List Slot
  pub post : List Slot
  pub before : entries_of d dir ≡ pre ++ post
  pub after : entries_of d' dir' ≡ pre ++ new_slot G nine file home index ∷ post
  -- the directory
  pub directory_chain : Chain G d' (directory_pointer G d) dir'
  pub some_directory : 0 < length dir'
  pub in_use_counted : All (Counted d') dir'
  -- the system sector and the file's sectors are as written; the other files and the free sectors that are left stay
  pub at_system : sector d' 0 ≡ saved_system G d (file ++ extra) (length file)
  pub at_file : (n : ℕ) → 0 < times n file → sector d' n ≡ sector (with_file G d (file ++ extra) file bs) n
  pub stays : (n : ℕ) → 0 < times n (chains_of G d (entries_of d dir)) + times n rest → sector d' n ≡ sector d n
  -- sectors only move from the free ones to the file and the directory
  pub moved : (n : ℕ) → times n dir' + times n file + times n rest ≡ times n dir + times n frees

module _ {G : Geometry} {d d' : Disc} {dir frees dir' nine file extra rest : List ℕ} {bs : List (List ℕ)} {home index : ℕ}
    (v : Saving G d dir frees nine file extra rest bs) (c : SaveFacts G d d' dir frees dir' nine file extra rest bs home index) where
  s' : Slot
  s' = new_slot G nine file home index

  -- ---- the new entry and its file

  pub new_name : name_of (new_slot G nine file home index) ≡ nine
  new_name = entry_name G v.bounded nine file v.nine_long (file_few v)

  pub new_length : length_of (new_slot G nine file home index) ≡ length file
  new_length = entry_count G v.bounded nine file v.nine_long (file_few v)

  new_walk : Chain G d' (first_of G (new_slot G nine file home index)) file
  new_walk =
      rw (entry_first G v.bounded nine file v.nine_long (file_few v) (head_pointable (file_below v)))
      (chain_frame d' (with_file_chain v).0 (at_all file (λ n h. ap (link_of G) (c.at_file n h))))

  pub new_chain : file_chain G d' (new_slot G nine file home index) ≡ file
  unfolding file_chain
  new_chain = chain_met G d' (sectors G) new_walk (omega (arith, free_length v, laid_sum v.laid))

  new_bodies : map (λ n. body (sector d' n)) file ≡ bs
  new_bodies = map_same (at_all file (λ n h. ap body (c.at_file n h))) ∙ (with_file_chain v).1

  new_good : GoodEntry (new_slot G nine file home index)
  new_good = new_entry_good G v.bounded nine file v.nine_long (file_few v) home index v.legal v.some_file

  new_file : GoodChain G d' (new_slot G nine file home index)
  new_file =
      record {
        chained = rw new_chain new_walk;
        as_long = ap length new_chain ∙ sym new_length;
        ends_at = entry_last G v.bounded nine file v.nine_long (file_few v)
            (all_at (λ n. n < sectors G) (last_or 0 file) (file_below v) (last_of file v.some_file))
            ∙ ap (λ (ns : List ℕ). go (last_or 0 ns)) (sym new_chain);
      }

  -- ---- the other files

  same_link : (n : ℕ) → 0 < times n (chains_of G d (entries_of d dir)) + times n rest → SameLink G d d' n
  same_link n h = ap (link_of G) (c.stays n h)

  old_files : (chains_of G d' (c.pre ++ c.post) ≡ chains_of G d (c.pre ++ c.post)) × All (GoodChain G d') (c.pre ++ c.post)
  old_files = files_frame d' (c.pre ++ c.post) (rw c.before at v.laid.filed.good_chains) (λ n h. same_link n (rw c.before (omega arith)))

  -- ---- the whole

  met_now : (n : ℕ) → times n (chains_of G d' (entries_of d' dir')) ≡ times n (chains_of G d (entries_of d dir)) + times n file
  unfolding s'
  met_now n =
      let was = ap (λ (ss : List Slot). times n (chains_of G d ss)) c.before in
      ap (λ (ss : List Slot). times n (chains_of G d' ss)) c.after ∙ chains_at G d' c.pre c.post s' n
      ∙ omega (arith, ap (times n) new_chain, chains_join G d' c.pre c.post n, ap (times n) old_files.0, was)

  met_once : Once (sectors G) (dir' ++ chains_of G d' (entries_of d' dir') ++ rest)
  met_once =
      once_parts dir (chains_of G d (entries_of d dir)) frees dir' (chains_of G d' (entries_of d' dir')) rest
      (λ n. omega (arith, met_now n, c.moved n)) v.laid.once

  new_names : (x : List ℕ) → called x (entries_of d' dir') ≤ 1
  unfolding s'
  new_names x =
      let now : called x (entries_of d' dir') ≡ called x c.pre + called x (s' ∷ []) + called x c.post =
      ap (called x) c.after ∙ called_at x c.pre c.post s' in
      let was : called x (entries_of d dir) ≡ called x c.pre + called x c.post = ap (called x) c.before ∙ called_join x c.pre c.post in
      elim (same_or_not (name_of s') x) [
        | equal q r ↦
            let none = ap (λ (y : List ℕ). called y (entries_of d dir)) (sym new_name ∙ q) in
            omega (arith, now, was, called_here x s' [] q, called_none x, none, v.fresh)
        | unequal q r ↦ omega (arith, now, was, called_past x s' [] q, called_none x, v.laid.filed.names_differ x)
      ]

  pub facts_laid : Laid G d' dir' rest
  unfolding s'
  facts_laid =
      let fs = old_files.1 in
      let gs = rw c.before at v.laid.filed.good_entries in
      record {
        filed = record {
          directory_chain = rw (saved_directory v d' c.at_system) c.directory_chain;
          some_directory = c.some_directory;
          in_use_counted = c.in_use_counted;
          good_entries = rw c.after (all_join (all_left c.pre c.post gs) (new_good also all_right c.pre gs));
          names_differ = new_names;
          good_chains = rw c.after (all_join (all_left c.pre c.post fs) (new_file also all_right c.pre fs));
          apart = once_apart dir' (chains_of G d' (entries_of d' dir')) rest met_once;
        };
        free_chain = rw (saved_free v d' c.at_system) (chain_frame d' (rest_chain v) (at_all rest (λ n h. same_link n (omega arith))));
        once = met_once;
        free_counted = saved_freed v d' c.at_system;
        used_counted = saved_used v d' c.at_system ∙ omega (
          arith,
          new_length,
          v.laid.used_counted,
          ap (λ (ss : List Slot). sum (map length_of ss)) c.before,
          ap (λ (ss : List Slot). sum (map length_of ss)) c.after,
          lengths_at c.pre c.post s',
          lengths_join c.pre c.post,
        );
      }

  -- the files as the book has them: one more
  pub facts_files : (a : List File) × (b : List File) × (files_of G d dir ≡ a ++ b)
      × (files_of G d' dir' ≡ a ++ record { name = nine; count = length file; reading = plain bs } ∷ b)
  unfolding reading s'
  facts_files =
      let pre = c.pre in
      let post = c.post in
      let old : map (file_of G d') (pre ++ post) ≡ map (file_of G d) (pre ++ post) =
      file_of_frame G d d' (pre ++ post) (rw c.before at v.laid.filed.good_chains) (λ n h. c.stays n (rw c.before (omega arith))) in
      let new : reading G d' s' ≡ plain bs = ap plain (ap (map (λ n. body (sector d' n))) new_chain ∙ new_bodies) in (
        map (file_of G d') pre,
        map (file_of G d') post,
        ap (map (file_of G d)) c.before ∙ sym old ∙ map-append (file_of G d') pre post,
        ap (map (file_of G d')) c.after ∙ map-append (file_of G d') pre (s' ∷ post)
            ∙ (λ i. map (file_of G d') pre ++ record { name = new_name i; count = new_length i; reading = new i } ∷ map (file_of G d') post),
      )
