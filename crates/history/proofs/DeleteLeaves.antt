-- Delete: the disc stays laid; the file's sectors stand in front of the free ones, and the entries are one fewer.
-- Assumes nothing.
use Rattle.std.specs.Prelude.{◌≡◌, ◌≢◌, ℕ, ◌+◌, ◌-◌, ◌≤◌, ◌<◌, set}
use Rattle.std.proofs.Math.Path.{refl, ap, subst}
use Rattle.std.proofs.Common.{sym, ◌∙◌, arith}
use Rattle.std.proofs.Math.Decide.{ℕ_discrete}
use mathlib.Core.List.{List, ◌∷◌, map, ◌++◌, map-append}
use Rattle.std.proofs.Math.ListN.{length, length-append, length-set}
use Rattle.std.proofs.Math.Seq.{length-sets}
use Rattle.lists.specs.Lists.{sum, times, last_or, byte, word_at, Once}
use Rattle.lists.specs.ListLaws.{All, tail_of, all_join, all_left, all_right, times_join, all_at, at_all}
use Rattle.lists.specs.Counts.{OneOf, once_parts, once_apart}
use Rattle.lists.specs.OneChanged.{OneChanged}
use Rattle.format.specs.Geometry.{Geometry, sectors, Disc, sector, written}
use Rattle.format.specs.GeometryLaws.{Full}
use Rattle.format.proofs.GeometryLaws.{pointed_on, sector_other, sector_same, sector_full, full_set}
use Rattle.format.specs.Layout.{free_count_offset, used_count_offset, link_offset, in_use_offset, system, free_count, used_count, Slot, empty_slot, in_use, length_of, slots_of, link_bytes, link_of, free_pointer, first_of, file_chain}
use Rattle.format.specs.ChainLaws.{Chain, SameLink}
use Rattle.format.proofs.ChainLaws.{chain_frame, chain_join}
use Rattle.format.specs.Effects.{with_slot, with_link, system_write, delete_writes}
use Rattle.history.specs.History.{File}
use Rattle.format.specs.NameCounts.{called}
use Rattle.format.proofs.NameCounts.{called_join, called_at}
use Rattle.soundness.specs.Slots.{empty_length, empty_free, change_freed, slots_same}
use Rattle.soundness.specs.SlotWrites.{with_slot_length, with_slot_count, with_bytes, SlotChange, with_slot_change, change_link, change_sector, change_slots}
use Rattle.format.specs.RuleLaws.{GoodChain, Counted}
use Rattle.soundness.specs.Filed.{entries_of, chains_of}
use Rattle.soundness.specs.Laid.{Laid, laid_one}
use Rattle.soundness.specs.Frames.{files_frame, chains_join, chains_at, lengths_join, lengths_at, laid_sum}
use Rattle.soundness.specs.Found.{home_once, home_low, home_high, Found, file_some, file_last, last_low, last_high, home_last}
use Rattle.soundness.specs.Pointers.{Bounded, Pointable, chain_pointable, link_stored}
use Rattle.soundness.specs.SystemWrites.{system_free, system_directory, system_freed, system_used, system_length}
use Rattle.history.proofs.BookFiles.{file_of, files_of, file_of_frame}

-- what a delete leaves: the book's files without this one
pub record DeleteLeaves (G : Geometry) (d d' : Disc) (dir frees : List ℕ) (s : Slot) : Type 0 where
  pub laid : Laid G d' dir (file_chain G d s ++ frees)
  pub full : Full G d'
  pub pre : List File
  pub post : List File
  pub was : files_of G d dir ≡ pre ++ file_of G d s ∷ post
  pub now : files_of G d' dir ≡ pre ++ post
  -- the sectors: the directory's, 0/1, and those that stay
  pub at_home : sector d' s.home ≡ with_slot (sector d s.home) s.index (byte (sector d s.home) in_use_offset - 1) empty_slot
  pub at_system : sector d' 0 ≡ (system_write G d (first_of G s) (free_count d + length_of s) (used_count d - length_of s)).bytes
  pub at_other : (n : ℕ) → n ≢ s.home → n ≢ 0 → times n (file_chain G d s) ≡ 0 → sector d' n ≡ sector d n

module _ {G : Geometry} {d : Disc} {dir frees nine : List ℕ} (u : Bounded G) (l : Laid G d dir frees) (z : Full G d) (s : Slot) (f : Found G d dir nine s) where
  file : List ℕ
  file = file_chain G d s

  last : ℕ
  last = last_or 0 (file_chain G d s)

  home : ℕ
  home = s.home

  -- ---- the three sectors that are written

  sec1 : List ℕ
  sec1 = with_slot (sector d s.home) s.index (byte (sector d s.home) in_use_offset - 1) empty_slot

  sec2 : List ℕ
  sec2 = with_link (sector d last) (link_bytes G (free_pointer G d))

  sys' : List ℕ
  sys' = (system_write G d (first_of G s) (free_count d + length_of s) (used_count d - length_of s)).bytes

  d' : Disc
  d' = set (set (set d s.home sec1) last sec2) 0 sys'

  deleted_is : written (delete_writes G d s) d ≡ d'
  unfolding delete_writes system_write d' sys' sec2 sec1 last
  deleted_is = refl

  -- ---- where they are

  one : (n : ℕ) → OneOf (sectors G) n (times n dir) (times n (chains_of G d (entries_of d dir))) (times n frees)
  one n = laid_one l n

  low : 0 < home
  unfolding home
  low = home_low l.filed s f.slot_of

  high : home < sectors G
  unfolding home
  high = home_high l.filed s f.slot_of

  home_in : times home dir ≡ 1
  unfolding home
  home_in = home_once l.filed s f.slot_of

  within : (n : ℕ) → times n file ≤ times n (chains_of G d (entries_of d dir))
  unfolding file
  within n = f.within n

  last_met : 0 < times last file
  unfolding file last
  last_met = file_last l.filed s f

  last_above : 0 < last
  unfolding last
  last_above = last_low l.filed s f

  last_below : last < sectors G
  unfolding last
  last_below = last_high l.filed s f

  apart_last : home ≢ last
  unfolding home last
  apart_last e = home_last l.filed s f e

  file_size : length file ≡ length_of s
  unfolding file
  file_size = f.file.as_long

  full_at : (n : ℕ) → n < sectors G → length (sector d n) ≡ 256
  full_at n h = sector_full z n h

  full_home : length (sector d s.home) ≡ 256
  unfolding home
  full_home = full_at home high

  full_system : length (system d) ≡ 256
  full_system = full_at 0 (omega (arith, last_below))

  -- ---- the sectors afterwards

  at_other : (m : ℕ) → m ≢ home → m ≢ last → m ≢ 0 → sector d' m ≡ sector d m
  unfolding d' home
  at_other m h k j = sector_other (set (set d home sec1) last sec2) 0 m sys' j ∙ sector_other (set d home sec1) last m sec2 k ∙ sector_other d home m sec1 h

  at_home : sector d' s.home ≡ with_slot (sector d s.home) s.index (byte (sector d s.home) in_use_offset - 1) empty_slot
  unfolding d' home sec1
  at_home =
      sector_other (set (set d home sec1) last sec2) 0 home sys' (λ e. omega (arith, low))
      ∙ sector_other (set d home sec1) last home sec2 apart_last ∙ sector_same d home sec1 (omega (arith, high, z.many))

  at_last : sector d' last ≡ sec2
  unfolding d' home
  at_last =
      sector_other (set (set d home sec1) last sec2) 0 last sys' (λ e. omega (arith, last_above))
      ∙ sector_same (set d home sec1) last sec2 (omega (arith, length-set d home sec1, z.many, last_below))

  at_zero : sector d' 0 ≡ sys'
  unfolding d' home
  at_zero =
      sector_same (set (set d home sec1) last sec2) 0 sys'
      (omega (arith, length-set (set d home sec1) last sec2, length-set d home sec1, z.many, last_below))

  change : SlotChange d d' s empty_slot
  change = with_slot_change d d' s _ empty_slot empty_length full_home f.slot_of.index_low at_home

  links : (m : ℕ) → m ≢ last → m ≢ 0 → SameLink G d d' m
  unfolding home
  links m k j =
      elim (ℕ_discrete m home) [
        | yes e ↦ subst (SameLink G d d') (sym e) (change_link s f.slot_of change G)
        | no e ↦ ap (link_of G) (at_other m e k j)
      ]

  directory_stays : (m : ℕ) → 0 < times m dir → m ≢ home → sector d' m ≡ sector d m
  directory_stays m h ne =
      at_other m ne (λ e. omega (arith, (one m).one, last_met, within last, ap (λ (n : ℕ). times n (chains_of G d (entries_of d dir))) e))
      (λ e. omega (arith, (one m).low (omega arith)))

  -- ---- the slots and the entries afterwards

  slots_changed : OneChanged (slots_of d dir) (slots_of d' dir) s (with_bytes s empty_slot)
  unfolding home
  slots_changed = change_slots s f.slot_of change home_in directory_stays

  pre : List Slot
  pre = in_use slots_changed.pre

  post : List Slot
  post = in_use slots_changed.post

  before : entries_of d dir ≡ pre ++ s ∷ post
  unfolding pre post
  before = (change_freed slots_changed f.used (empty_free _ _)).0

  after : entries_of d' dir ≡ pre ++ post
  unfolding pre post
  after = (change_freed slots_changed f.used (empty_free _ _)).1

  met_now : (n : ℕ) → times n (chains_of G d (entries_of d dir)) ≡ times n (chains_of G d (pre ++ post)) + times n file
  unfolding file
  met_now n = ap (λ (ss : List Slot). times n (chains_of G d ss)) before ∙ omega (arith, chains_at G d pre post s n, chains_join G d pre post n)

  rest : All (GoodChain G d) (pre ++ post)
  rest = let fs = rw before at l.filed.good_chains in all_join (all_left pre (s ∷ post) fs) (tail_of (all_right pre fs))

  -- a sector that isn't the file's keeps its link
  stays : (n : ℕ) → times n file ≡ 0 → 0 < times n dir + times n (chains_of G d (entries_of d dir)) + times n frees → SameLink G d d' n
  stays n h k = links n (λ e. omega (arith, last_met, ap (λ (m : ℕ). times m file) e)) (λ e. omega (arith, (one n).low k))

  frames : (chains_of G d' (pre ++ post) ≡ chains_of G d (pre ++ post)) × All (GoodChain G d') (pre ++ post)
  frames = files_frame d' (pre ++ post) rest (λ n h. stays n (omega (arith, met_now n, (one n).one)) (omega (arith, met_now n)))

  to_free : Pointable G (free_pointer G d)
  to_free = chain_pointable l.free_chain (pointed_on G _ _)

  to_file : Pointable G (first_of G s)
  to_file = chain_pointable f.file.chained (pointed_on G _ _)

  link_last : link_of G (sector d' last) ≡ free_pointer G d
  unfolding sec2
  link_last = ap (link_of G) at_last ∙ link_stored G u (sector d last) to_free (omega (arith, full_at last last_below))

  free_now : Chain G d' (first_of G s) (file ++ frees)
  unfolding last file
  free_now =
      chain_join d' f.file.chained (file_some l.filed s f) (λ n h ne. links n ne (λ e. omega (arith, (one n).low (omega (arith, within n)))))
      (omega (arith, last_met, (one last).one, within last)) link_last
      (chain_frame d' l.free_chain (at_all frees (λ n h. stays n (omega (arith, (one n).one, within n)) (omega arith))))

  sum_before : used_count d ≡ sum (map length_of (pre ++ post)) + length_of s
  sum_before = l.used_counted ∙ ap (λ (ss : List Slot). sum (map length_of ss)) before ∙ omega (arith, lengths_at pre post s, lengths_join pre post)

  counts' : (n : ℕ) → 0 < times n dir → Counted d n → Counted d' n
  unfolding home
  counts' n h c =
      elim (ℕ_discrete n home) [
        | yes e ↦
            let p = change_sector s f.slot_of change in
            let q = change_freed p f.used (empty_free _ _) in
            let c' : Counted d s.home = subst (Counted d) e c in
            let was = ap length q.0 ∙ length-append (in_use p.pre) (s ∷ in_use p.post) in
            let now = ap length q.1 ∙ length-append (in_use p.pre) (in_use p.post) in
            subst (Counted d') (sym e)
            (ap (λ (r : List ℕ). byte r in_use_offset) at_home
            ∙ with_slot_count (sector d s.home) s.index _ empty_slot empty_length (omega (arith, full_home))
            ∙ omega (arith, c', was, now))
        | no e ↦ let w = directory_stays n h e in rw (w, slots_same d d' n w) c
      ]

  met_once : Once (sectors G) (dir ++ chains_of G d' (entries_of d' dir) ++ (file ++ frees))
  met_once =
      once_parts dir (chains_of G d (entries_of d dir)) frees dir (chains_of G d' (entries_of d' dir)) (file ++ frees)
      (λ n. omega (arith, met_now n, ap (times n) frames.0, ap (λ (ss : List Slot). times n (chains_of G d' ss)) after, times_join n file frees)) l.once

  laid' : Laid G d' dir (file ++ frees)
  unfolding sys'
  laid' =
      let total = laid_sum l in
      let gs = rw before at l.filed.good_entries in
      record {
        filed = record {
          directory_chain = rw at_zero (rw (system_directory G d (first_of G s) _ _)
              (chain_frame d' l.filed.directory_chain (at_all dir (λ n h. stays n (omega (arith, (one n).one, within n)) (omega arith)))));
          some_directory = l.filed.some_directory;
          in_use_counted = at_all dir (λ n h. counts' n h (all_at (Counted d) n l.filed.in_use_counted h));
          good_entries = rw after (all_join (all_left pre (s ∷ post) gs) (tail_of (all_right pre gs)));
          names_differ = λ x.
              omega (arith, l.filed.names_differ x, ap (called x) before, called_at x pre post s, ap (called x) after, called_join x pre post);
          good_chains = rw after frames.1;
          apart = once_apart dir (chains_of G d' (entries_of d' dir)) (file ++ frees) met_once;
        };
        free_chain = rw at_zero (rw (system_free G u d full_system (first_of G s) to_file _ _) free_now);
        once = met_once;
        free_counted = ap (λ (r : List ℕ). word_at r free_count_offset) at_zero
            ∙ system_freed G u d full_system (first_of G s) to_file _ _ (omega (arith, total, l.free_counted, l.used_counted, sum_before, u.few))
            ∙ omega (arith, l.free_counted, length-append file frees, file_size);
        used_counted = ap (λ (r : List ℕ). word_at r used_count_offset) at_zero
            ∙ system_used G u d full_system (first_of G s) to_file _ _ (omega (arith, total, l.used_counted, u.few))
            ∙ omega (arith, sum_before, ap (λ (ss : List Slot). sum (map length_of ss)) after);
      }

  full' : Full G d'
  unfolding d' sec1 sec2 sys'
  full' =
      let full₁ = full_set z s.home sec1 (with_slot_length (sector d s.home) s.index _ empty_slot empty_length ∙ full_home) in
      let full₂ = full_set full₁ last sec2 (length-sets (sector d last) link_offset (link_bytes G (free_pointer G d)) ∙ full_at last last_below) in
      full_set full₂ 0 sys' (system_length G u d full_system (first_of G s) to_file _ _)

  -- the other files stay as they were
  others : map (file_of G d') (pre ++ post) ≡ map (file_of G d) (pre ++ post)
  others = file_of_frame G d d' (pre ++ post) rest (λ n h.
      at_other n (λ e. omega (arith, met_now n, (one n).one, home_in, ap (λ (m : ℕ). times m dir) e))
      (λ e. omega (arith, met_now n, (one n).one, last_met, ap (λ (m : ℕ). times m file) e))
      (λ e. omega (arith, (one n).low (omega (arith, met_now n)))))

  pub delete_leaves : DeleteLeaves G d (written (delete_writes G d s) d) dir frees s
  unfolding file home sys'
  delete_leaves =
      rw deleted_is (record {
        laid = laid';
        full = full';
        pre = map (file_of G d) pre;
        post = map (file_of G d) post;
        was = ap (map (file_of G d)) before ∙ map-append (file_of G d) pre (s ∷ post);
        now = ap (map (file_of G d')) after ∙ others ∙ map-append (file_of G d) pre post;
        at_home = at_home;
        at_system = at_zero;
        at_other = λ n h k j. at_other n h (λ e. omega (arith, last_met, ap (λ (m : ℕ). times m file) e)) k;
      })
