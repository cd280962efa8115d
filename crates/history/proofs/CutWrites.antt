-- A command cut after any of its writes: the disc differs from the one before, or from the one after, only in the system sector, whose directory
-- pointer stays, and in sectors that are free there.
-- Assumes nothing.
use Rattle.std.specs.Prelude.{◌≡◌, refl, cond, set, drop, leb}
use Rattle.std.proofs.Math.Path.{sym, ap}
use Rattle.std.proofs.Common.{◌∙◌, subst, arith, take-append-drop, length-set, take_all, eqb-true, le-leb}
use Prim.Native.Nat.{ℕ, zero, suc, ◌+◌, ◌≤◌, ◌<◌}
use Rattle.std.proofs.Math.Decide.{ℕ_discrete, dec_le}
use Rattle.std.proofs.Math.Option.{some}
use mathlib.Core.List.{List, [], ◌∷◌, ◌++◌}
use Rattle.std.proofs.Math.ListN.{length, take, length-append, length-map}
use Rattle.std.proofs.Math.Seq.{take-append-le}
use Rattle.std.proofs.lemmas.Bool.{lt-leb}
use Rattle.lists.specs.Lists.{times, last_or}
use Rattle.lists.specs.ListLaws.{All, done, ◌also◌, head_of_all, tail_of, all_map, all_join, times_here, times_past, times_join, all_at, at_all, all_take, all_drop, map_take}
use Rattle.lists.specs.Counts.{times_more}
use Rattle.format.specs.Refusals.{ok}
use Rattle.format.specs.Geometry.{Geometry, Next, Disc, sector, Write, written}
use Rattle.format.specs.GeometryLaws.{Full}
use Rattle.format.proofs.GeometryLaws.{sector_other, sector_same}
use Rattle.format.specs.Layout.{directory_offset, Slot, pair_at, directory_pointer, free, open_slot, find, file_chain}
use Rattle.format.specs.Check.{broken}
use Rattle.format.specs.Modules.{Module, sectors_for}
use Rattle.format.specs.Effects.{needed, growth, save_writes, delete_writes, system_write}
use Rattle.format.proofs.CallLaws.{save_ok, delete_ok, rename_ok, protect_ok}
use Rattle.soundness.specs.WriteFacts.{Removable, removable, Savable, savable}
use Rattle.soundness.specs.Laid.{free_is, sound_laid}
use Rattle.soundness.specs.Found.{found, file_last}
use Rattle.soundness.specs.Pointers.{Bounded}
use Rattle.soundness.specs.SystemWrites.{system_directory}
use Rattle.soundness.specs.ChainWrites.{written_join}
use Rattle.soundness.specs.ListedWrites.{targets, all_taken, entry_home, home_lies, taken_targets}
use Rattle.history.proofs.DeleteLeaves.{delete_leaves}
use Rattle.history.specs.Cuts.{Writing, save, delete, rename, protect, writes_on, is_done}

-- d differs from r as said above
pub record Within (G : Geometry) (r d : Disc) : Type 0 where
  pub pointer : directory_pointer G d ≡ directory_pointer G r
  pub stays : (n : ℕ) → times n (0 ∷ free G r) ≡ 0 → sector d n ≡ sector r n

within_self : {G : Geometry} {d : Disc} → Within G d d
within_self = record { pointer = refl; stays = λ n h. refl }

-- ---- parts of lists

of_targets : {P : ℕ → Type 0} (ws : List Write) → All P (targets ws) → All (λ w. P w.at) ws
of_targets [] h = done
of_targets (w ∷ ws) h = head_of_all h also of_targets ws (tail_of h)

-- ---- writes of some sectors only

-- a write of one of these sectors
abbrev pub Into : List ℕ → Write → Type 0
Into zs w = 0 < times w.at zs

pub into_other : (zs : List ℕ) {ws : List Write} (d : Disc) → All (Into zs) ws → (n : ℕ) → times n zs ≡ 0 → sector (written ws d) n ≡ sector d n
into_other zs d done n h = refl
into_other zs d (◌also◌ {x = w} {xs = ws} k ks) n h =
    into_other zs (set d w.at w.bytes) ks n h ∙ sector_other d w.at n w.bytes (λ e. omega (arith, ap (λ (j : ℕ). times j zs) e))

module _ (G : Geometry) where
  -- a write of the system sector keeps the directory pointer p
  abbrev Keeps : Next → Write → Type 0
  Keeps p w = w.at ≡ 0 → pair_at G w.bytes directory_offset ≡ p

  keeps_pointer : {p : Next} {ws : List Write} (d : Disc) → 0 < length d → directory_pointer G d ≡ p → All (Keeps p) ws → directory_pointer G (written ws d) ≡ p
  keeps_pointer d h e done = e
  keeps_pointer {p} d h e (◌also◌ {x = w} {xs = ws} k ks) =
      keeps_pointer (set d w.at w.bytes) (omega (arith, length-set d w.at w.bytes)) now ks
    where
      now : directory_pointer G (set d w.at w.bytes) ≡ p
      now =
          let pointer : List ℕ → Next = λ s. pair_at G s directory_offset in
          elim (ℕ_discrete w.at 0) [
            | yes q ↦ ap (λ (j : ℕ). pointer (sector (set d j w.bytes) 0)) q ∙ ap pointer (sector_same d 0 w.bytes h) ∙ k q
            | no q ↦ ap pointer (sector_other d w.at 0 w.bytes (λ e. q (sym e))) ∙ e
          ]

  -- writes of other sectors
  low_keeps : (p : Next) {ws : List Write} → All (λ w. 0 < w.at) ws → All (Keeps p) ws
  low_keeps p h = all_map (λ w k e. absurd (omega arith)) h

-- ---- each command, on a sound disc

module _ (G : Geometry) (u : Bounded G) (d : Disc) (z : Full G d) (e : broken G d ≡ 0) where
  v : Savable G d
  v = savable G d e

  some_sector : 0 < length d
  some_sector = omega (arith, v.used_fits, z.many)

  -- the writes made go to free sectors
  before : (ws : List Write) → All (Into (0 ∷ free G d)) ws → All (Keeps G (directory_pointer G d)) ws → Within G d (written ws d)
  before ws h k = record { pointer = keeps_pointer G d some_sector refl k; stays = λ n i. into_other (0 ∷ free G d) d h n i }

  -- those not made go to sectors that are free afterwards
  after : (ws vs : List Write) → All (Into (0 ∷ free G (written (ws ++ vs) d))) vs
      → All (Keeps G (directory_pointer G d)) (ws ++ vs) → All (Keeps G (directory_pointer G d)) ws → Within G (written (ws ++ vs) d) (written ws d)
  after ws vs h all k =
      record {
        pointer = keeps_pointer G d some_sector refl k ∙ sym (keeps_pointer G d some_sector refl all);
        stays = λ n i. sym (ap (λ (x : Disc). sector x n) (written_join ws vs d) ∙ into_other (0 ∷ free G (written (ws ++ vs) d)) (written ws d) h n i);
      }

  -- ---- save: all writes but the last go to the system sector and to free ones

  module _ (nine : List ℕ) (m : Module) (room : needed G d (length m.bytes) ≤ length (free G d)) where
    ws : List Write
    ws = save_writes G d nine m

    home : ℕ
    home = entry_home G d (open_slot G d)

    targets_are : targets ws ≡ (0 ∷ all_taken G d m) ++ home ∷ []
    unfolding ws home
    targets_are = taken_targets G d nine m room

    free_taken : {P : ℕ → Type 0} → ((n : ℕ) → 0 < times n (free G d) → P n) → All P (all_taken G d m)
    free_taken h = all_take (sectors_for (length m.bytes) + growth G d) (at_all (free G d) h)

    pub first_into : (j : ℕ) → j < length (save_writes G d nine m) → All (Into (0 ∷ all_taken G d m)) (take j (save_writes G d nine m))
    unfolding ws
    first_into j h =
        let front : List ℕ = 0 ∷ all_taken G d m in
        let fits : j ≤ length front = omega (arith, length-map ws (λ w. w.at), ap length targets_are, length-append front (home ∷ [])) in
        let is : targets (take j ws) ≡ take j front = sym (map_take (λ w. w.at) j ws) ∙ ap (take j) targets_are ∙ take-append-le j front (home ∷ []) fits in
        of_targets (take j ws) (rw is (all_take j (at_all front (λ n q. q))))

    rest_low : All (λ n. 0 < n) (all_taken G d m ++ home ∷ [])
    unfolding home
    rest_low = all_join (free_taken v.free_low) (v.directory_low _ (home_lies G d v (open_slot G d) refl) also done)

    -- none but the first writes the system sector
    pub later_low : All (λ w. 0 < w.at) (drop 1 (save_writes G d nine m))
    unfolding ws save_writes
    later_low = of_targets _ (subst (All (λ n. 0 < n)) (sym (ap (drop 1) targets_are)) rest_low)

    keeps : All (Keeps G (directory_pointer G d)) (save_writes G d nine m)
    unfolding save_writes
    keeps = (λ _. system_directory G d _ _ _) also low_keeps G (directory_pointer G d) later_low

    -- a sector taken is a free one
    taken_lies : (n : ℕ) → 0 < times n (0 ∷ all_taken G d m) → 0 < times n (0 ∷ free G d)
    taken_lies n h = elim (ℕ_discrete n 0) [
      | yes e ↦ omega (arith, times_here n 0 (free G d) e)
      | no e ↦ times_more n 0 (free G d) (all_at (λ i. 0 < times i (free G d)) n (free_taken (λ i q. q)) (omega (arith, times_past n 0 (all_taken G d m) e)))
    ]

    pub save_before : (j : ℕ) → j < length (save_writes G d nine m) → Within G d (written (take j (save_writes G d nine m)) d)
    unfolding ws
    save_before j h =
        let into-free : All (Into (0 ∷ free G d)) (take j ws) = all_map (λ w q. taken_lies w.at q) (first_into j h) in
        before (take j ws) into-free (all_take j keeps)

  -- ---- delete: all writes but the first go to the system sector and to sectors that are free afterwards

  module _ (nine : List ℕ) (s : Slot) (q : find G d nine ≡ some s) where
    r : Removable G d s
    r = removable G d nine s e q

    last : ℕ
    last = last_or 0 (file_chain G d s)

    now_free : free G (written (delete_writes G d s) d) ≡ file_chain G d s ++ free G d
    now_free = let l = sound_laid G d e in free_is (delete_leaves u l z s (found l.filed q)).laid

    last_into : (j : ℕ) → All (Into (0 ∷ file_chain G d s ++ free G d)) (drop (suc j) (delete_writes G d s))
    unfolding delete_writes system_write last
    last_into j =
        let frees : List ℕ = file_chain G d s ++ free G d in
        let l = sound_laid G d e in
        let lies : 0 < times last (file_chain G d s) = file_last l.filed s (found l.filed q) in
        let at_last : 0 < times last (0 ∷ frees) = times_more last 0 frees (omega (arith, times_join last (file_chain G d s) (free G d))) in
        let at_zero : 0 < times 0 (0 ∷ frees) = omega (arith, times_here 0 0 frees refl) in
        all_drop j (at_last also at_zero also done)

    delete_keeps : All (Keeps G (directory_pointer G d)) (delete_writes G d s)
    unfolding delete_writes
    delete_keeps =
        (λ (w : s.home ≡ 0). absurd (omega (arith, r.home_low)))
        also (λ (w : last_or 0 (file_chain G d s) ≡ 0). absurd (omega (arith, r.last_low)))
        also (λ _. system_directory G d _ _ _) also done

    pub delete_after : (j : ℕ) → Within G (written (delete_writes G d s) d) (written (take (suc j) (delete_writes G d s)) d)
    delete_after j =
        let ws : List Write = delete_writes G d s in
        let made : List Write = take (suc j) ws in
        let whole : made ++ drop (suc j) ws ≡ ws = take-append-drop (suc j) ws in
        let into : All (Into (0 ∷ free G (written ws d))) (drop (suc j) ws) = rw now_free (last_into j) in
        subst (λ (vs : List Write). Within G (written vs d) (written made d)) whole
        (after made (drop (suc j) ws) (rw whole into) (rw whole delete_keeps) (all_take (suc j) delete_keeps))

-- ---- rename and protect: one write, and none or all of it was made

one_within : (G : Geometry) (d : Disc) (w : Write) (j : ℕ) → Within G (cond (leb 1 j) (written (w ∷ []) d) d) (written (take j (w ∷ [])) d)
one_within G d w zero = within_self
one_within G d w (suc j) = rw (le-leb 1 (suc j) (omega arith), take_all (suc j) (w ∷ []) (omega arith)) within_self

-- ---- the four

pub cut_within : (G : Geometry) → Bounded G → (d : Disc) → Full G d → (w : Writing) (ws : List Write) → writes_on w G d ≡ ok ws → (j : ℕ)
    → Within G (cond (is_done w (length ws) j) (written ws d) d) (written (take j ws) d)
unfolding writes_on is_done
cut_within G u d z (save name m) ws p j =
    let q = save_ok G d name m ws p in
    elim (dec_le (length ws) j) [
      | yes h ↦ rw (le-leb (length ws) j h, take_all j ws h) within_self
      | no h ↦ rw (lt-leb (length ws) j (omega arith), ← q.writes)
          (save_before G u d z (eqb-true _ _ q.checked) q.nine m q.room j (rw q.writes (omega arith)))
    ]
cut_within G u d z (delete name) ws p zero = within_self
cut_within G u d z (delete name) ws p (suc j) =
    let q = delete_ok G d name ws p in
    rw (le-leb 1 (suc j) (omega arith), ← q.writes) (delete_after G u d z (eqb-true _ _ q.checked) q.nine q.s q.found j)
cut_within G u d z (rename old new) ws p j = let q = rename_ok G d old new ws p in rw (← q.writes) (one_within G d _ j)
cut_within G u d z (protect name on) ws p j = let q = protect_ok G d name on ws p in rw (← q.writes) (one_within G d _ j)
