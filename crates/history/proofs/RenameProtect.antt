-- Rename and protect: some bytes of one entry change, its file's place and length stay. The disc stays laid.
-- Assumes nothing.
use Rattle.std.specs.Prelude.{◌≡◌, refl, ◌≢◌, ℕ, ◌+◌, ◌*◌, ◌≤◌, ◌<◌, true, List, [], ◌∷◌, map, ◌++◌, length, take, drop}
use Rattle.std.proofs.Common.{sym, ap₂, ◌∙◌, subst, arith, length-append, take_at, get_or-set_same}
use Rattle.std.proofs.Math.Path.{ap}
use Rattle.std.proofs.Math.Decide.{ℕ_discrete}
use Rattle.std.proofs.Math.Seq.{sets, length-sets}
use Rattle.std.proofs.lemmas.List.{take-set-le}
use Rattle.std.proofs.lemmas.List.Edits.{sets-eq}
use Rattle.lists.specs.Lists.{sum, times, byte, Once}
use Rattle.lists.specs.ListLaws.{◌also◌, head_of_all, tail_of, all_map, all_join, all_left, all_right, at_all, equal, unequal, same_or_not}
use Rattle.format.specs.Geometry.{Geometry, sectors, pointed, Disc, sector, written}
use Rattle.format.specs.GeometryLaws.{Full}
use Rattle.format.proofs.GeometryLaws.{sector_other, sector_same, sector_full, full_set}
use Rattle.format.specs.Names.{legal_stored}
use Rattle.format.specs.Layout.{in_use_offset, slot_start, name_offset, length_offset, first_offset, last_offset, attribute_offset, is_attribute, Slot, in_use, name_of, length_of, attribute_of, slots_at, link_of, first_of, last_of}
use Rattle.format.specs.ChainLaws.{SameLink}
use Rattle.format.proofs.ChainLaws.{chain_frame}
use Rattle.format.specs.Effects.{slot_write, reading}
use Rattle.lists.specs.Counts.{once_parts, once_apart}
use Rattle.lists.specs.OneChanged.{OneChanged}
use Rattle.lists.specs.Stores.{get_d_sets_off}
use Rattle.format.specs.NameCounts.{called}
use Rattle.format.proofs.NameCounts.{called_none, called_at, called_here, called_past}
use Rattle.soundness.specs.Slots.{is_used, change_used, slots_same}
use Rattle.soundness.specs.SlotWrites.{store_head, with_bytes, SlotChange, stored_change, change_link, change_sector, change_slots}
use Rattle.format.specs.RuleLaws.{GoodEntry, Counted}
use Rattle.soundness.specs.Filed.{good_used, entries_of, chains_of}
use Rattle.soundness.specs.Laid.{Laid}
use Rattle.soundness.specs.Frames.{file_frame, files_frame, chains_at, lengths_at}
use Rattle.soundness.specs.Found.{home_once, home_low, home_high, home_apart, slot_length, slot_bytes_are, Found}
use Rattle.history.proofs.BookFiles.{file_of, files_of, files_of_changed}

-- the entry with xs stored from offset k on
abbrev pub changed_slot : Slot → ℕ → List ℕ → Slot
changed_slot s k xs = with_bytes s (sets s.bytes k xs)

-- what either leaves: one file of the book's has another name, or the same
pub record EntryChanged (G : Geometry) (d d' : Disc) (dir frees : List ℕ) (s : Slot) (nine : List ℕ) : Type 0 where
  pub laid : Laid G d' dir frees
  pub full : Full G d'
  pub files : OneChanged (files_of G d dir) (files_of G d' dir) (file_of G d s) (record { name = nine; count = length_of s; reading = reading G d s })
  -- the entry, now with these bytes
  pub bytes : List ℕ
  pub entries : OneChanged (entries_of d dir) (entries_of d' dir) s (with_bytes s bytes)
  pub name : name_of (with_bytes s bytes) ≡ nine

module _ {G : Geometry} {d : Disc} {dir frees nine : List ℕ} (l : Laid G d dir frees) (z : Full G d) (s : Slot) (f : Found G d dir nine s) where
  -- ---- any bytes that keep what a chain needs
  module _ (k : ℕ) (xs : List ℕ) (fit : k + length xs ≤ 16)
      (keeps : (j : ℕ) → length_offset ≤ j → j < attribute_offset → byte (sets s.bytes k xs) j ≡ byte s.bytes j)
      (legal' : legal_stored (name_of (changed_slot s k xs)) ≡ true) (attribute' : is_attribute (attribute_of (changed_slot s k xs)) ≡ true)
      (fresh : called (name_of (changed_slot s k xs)) (entries_of d dir) ≤ called (name_of (changed_slot s k xs)) (s ∷ [])) where
    d' : Disc
    d' = written (slot_write d s k xs ∷ []) d

    here : sector d' s.home ≡ sets (sector d s.home) (slot_start s.index + k) xs
    unfolding d'
    here = sector_same d s.home _ (omega (arith, z.many, home_high l.filed s f.slot_of))

    other : (m : ℕ) → m ≢ s.home → sector d' m ≡ sector d m
    unfolding d'
    other m h = sector_other d s.home m _ h

    change : SlotChange d d' s (sets s.bytes k xs)
    change = stored_change d d' s k xs fit (slot_bytes_are l.filed s f.slot_of) here

    links : (m : ℕ) → SameLink G d d' m
    links m =
        elim (ℕ_discrete m s.home) [
          | yes e ↦ subst (SameLink G d d') (sym e) (change_link s f.slot_of change G)
          | no e ↦ ap (link_of G) (other m e)
        ]

    long' : length_of (changed_slot s k xs) ≡ length_of s
    long' = ap₂ (λ (a b : ℕ). a + 256 * b) (keeps length_offset (omega arith) (omega arith)) (keeps (length_offset + 1) (omega arith) (omega arith))

    first' : first_of G (changed_slot s k xs) ≡ first_of G s
    first' = ap₂ (λ (a b : ℕ). pointed G a b) (keeps (first_offset + 1) (omega arith) (omega arith)) (keeps first_offset (omega arith) (omega arith))

    last' : last_of G (changed_slot s k xs) ≡ last_of G s
    last' = ap₂ (λ (a b : ℕ). pointed G a b) (keeps (last_offset + 1) (omega arith) (omega arith)) (keeps last_offset (omega arith) (omega arith))

    good' : GoodEntry (changed_slot s k xs)
    good' = record { legal = legal'; some_sector = omega (arith, long', f.good.some_sector); attribute_right = attribute' }

    used' : is_used (changed_slot s k xs) ≡ true
    used' = good_used (changed_slot s k xs) good'

    entries_changed : OneChanged (entries_of d dir) (entries_of d' dir) s (changed_slot s k xs)
    entries_changed = change_used (change_slots s f.slot_of change (home_once l.filed s f.slot_of) (λ m a ne. other m ne)) f.used used'

    counts' : (n : ℕ) → Counted d n → Counted d' n
    counts' n c =
        elim (ℕ_discrete n s.home) [
          | yes e ↦
              let p = change_used (change_sector s f.slot_of change) f.used used' in
              let as_many : length (in_use (slots_at d' s.home)) ≡ length (in_use (slots_at d s.home)) =
              ap length p.now ∙ length-append p.pre _ ∙ sym (ap length p.was ∙ length-append p.pre _) in
              let count : byte (sector d' s.home) in_use_offset ≡ byte (sector d s.home) in_use_offset =
              ap (λ (r : List ℕ). byte r in_use_offset) here ∙ store_head (sector d s.home) s.index k xs fit in_use_offset (omega arith) in
              subst (Counted d') (sym e) (count ∙ subst (Counted d) e c ∙ sym as_many)
          | no e ↦ rw (other n e, slots_same d d' n (other n e)) c
        ]

    laid' : Laid G d' dir frees
    laid' =
        let p = entries_changed in
        let sys : sector d' 0 ≡ sector d 0 = other 0 (λ e. omega (arith, home_low l.filed s f.slot_of)) in
        let fs = rw p.was at l.filed.good_chains in
        let gs = rw p.was at l.filed.good_entries in
        let pre = files_frame d' p.pre (all_left p.pre _ fs) (λ n h. links n) in
        let post = files_frame d' p.post (tail_of (all_right p.pre fs)) (λ n h. links n) in
        let mid = file_frame d' (changed_slot s k xs) first' last' long' (head_of_all (all_right p.pre fs)) (at_all _ (λ n h. links n)) in
        let met : (n : ℕ) → times n (chains_of G d' (entries_of d' dir)) ≡ times n (chains_of G d (entries_of d dir)) = λ n.
        let was = ap (λ (ss : List Slot). times n (chains_of G d ss)) p.was ∙ chains_at G d p.pre p.post s n in
        ap (λ (ss : List Slot). times n (chains_of G d' ss)) p.now ∙ chains_at G d' p.pre p.post (changed_slot s k xs) n
        ∙ omega (arith, ap (times n) pre.0, ap (times n) post.0, ap (times n) mid.0, was) in
        let o : Once (sectors G) (dir ++ chains_of G d' (entries_of d' dir) ++ frees) =
        once_parts dir (chains_of G d (entries_of d dir)) frees dir (chains_of G d' (entries_of d' dir)) frees (λ n. omega (arith, met n)) l.once in
        record {
          filed = record {
            directory_chain = rw sys (chain_frame d' l.filed.directory_chain (at_all dir (λ n h. links n)));
            some_directory = l.filed.some_directory;
            in_use_counted = all_map counts' l.filed.in_use_counted;
            good_entries = rw p.now (all_join (all_left p.pre _ gs) (good' also tail_of (all_right p.pre gs)));
            names_differ = λ x.
                let now : called x (entries_of d' dir) ≡ called x p.pre + called x (changed_slot s k xs ∷ []) + called x p.post =
                ap (called x) p.now ∙ called_at x p.pre p.post (changed_slot s k xs) in
                let was : called x (entries_of d dir) ≡ called x p.pre + called x (s ∷ []) + called x p.post =
                ap (called x) p.was ∙ called_at x p.pre p.post s in
                elim (same_or_not (name_of (changed_slot s k xs)) x) [
                  | equal q r ↦
                      let few = subst (λ (y : List ℕ). called y (entries_of d dir) ≤ called y (s ∷ [])) q fresh in
                      omega (arith, now, was, called_here x (changed_slot s k xs) [] q, called_none x, few)
                  | unequal q r ↦ omega (arith, now, was, called_past x (changed_slot s k xs) [] q, called_none x, l.filed.names_differ x)
                ];
            good_chains = rw p.now (all_join pre.1 (mid.1 also post.1));
            apart = once_apart dir (chains_of G d' (entries_of d' dir)) frees o;
          };
          free_chain = rw sys (chain_frame d' l.free_chain (at_all frees (λ n h. links n)));
          once = o;
          free_counted = rw sys l.free_counted;
          used_counted =
              let was = ap (λ (ss : List Slot). sum (map length_of ss)) p.was ∙ lengths_at p.pre p.post s in
              let now = ap (λ (ss : List Slot). sum (map length_of ss)) p.now ∙ lengths_at p.pre p.post (changed_slot s k xs) in
              rw sys (l.used_counted ∙ sym (now ∙ omega (arith, long', was)));
        }

    entry_changed : EntryChanged G d (written (slot_write d s k xs ∷ []) d) dir frees s (name_of (changed_slot s k xs))
    unfolding d'
    entry_changed =
        record {
          laid = laid';
          full = full_set z s.home _
              (length-sets (sector d s.home) (slot_start s.index + k) xs ∙ sector_full z s.home (home_high l.filed s f.slot_of));
          bytes = sets s.bytes k xs;
          entries = entries_changed;
          name = refl;
          files = files_of_changed d' dir l.filed.good_chains entries_changed
              (λ n h. other n (λ e. omega (arith, home_apart l.filed s f.slot_of, ap (λ (m : ℕ). times m (chains_of G d (entries_of d dir))) e)))
              first' last' long';
        }

  -- ---- the two commands

  pub renamed_entry : (nine' : List ℕ) → length nine' ≡ 9 → legal_stored nine' ≡ true → called nine' (entries_of d dir) ≡ 0
      → EntryChanged G d (written (slot_write d s name_offset nine' ∷ []) d) dir frees s nine'
  renamed_entry nine' long legal fresh =
      let sixteen = slot_length l.filed s f.slot_of z in
      let name' : name_of (changed_slot s name_offset nine') ≡ nine' =
      ap (take 9) (sets-eq nine' s.bytes name_offset (omega arith)) ∙ take_at nine' (drop (name_offset + length nine') s.bytes) 9 long in
      let past : (j : ℕ) → length_offset ≤ j → byte (sets s.bytes name_offset nine') j ≡ byte s.bytes j = λ j h.
      get_d_sets_off nine' s.bytes name_offset j 0 (λ a. omega arith) in
      subst (EntryChanged G d (written (slot_write d s name_offset nine' ∷ []) d) dir frees s) name'
      (entry_changed name_offset nine' (omega arith) (λ j h k. past j h) (ap legal_stored name' ∙ legal)
      (ap is_attribute (past attribute_offset (omega arith)) ∙ f.good.attribute_right)
      (omega (arith, ap (λ (x : List ℕ). called x (entries_of d dir)) name')))

  pub protected_entry : (a : ℕ) → is_attribute a ≡ true → EntryChanged G d (written (slot_write d s attribute_offset (a ∷ []) ∷ []) d) dir frees s (name_of s)
  protected_entry a e =
      let sixteen = slot_length l.filed s f.slot_of z in
      let name' : name_of (changed_slot s attribute_offset (a ∷ [])) ≡ name_of s = take-set-le 9 s.bytes attribute_offset a (omega arith) in
      let all = ap (λ (x : List ℕ). called x (entries_of d dir)) name' in
      let own = ap (λ (x : List ℕ). called x (s ∷ [])) name' in
      subst (EntryChanged G d (written (slot_write d s attribute_offset (a ∷ []) ∷ []) d) dir frees s) name'
      (entry_changed attribute_offset (a ∷ []) (omega arith) (λ j h k. get_d_sets_off (a ∷ []) s.bytes attribute_offset j 0 (λ i. absurd (omega arith)))
      (ap legal_stored name' ∙ f.good.legal)
      (ap is_attribute (get_or-set_same s.bytes attribute_offset a 0 (omega arith)) ∙ e)
      (omega (arith, all, l.filed.names_differ (name_of s), own, called_here (name_of s) s [] refl)))
