-- On a sound disc the commands write whole sectors of the disc, each once.
-- Assumes nothing.
use Rattle.std.specs.Prelude.{◌≡◌, true, not, eqb}
use Rattle.std.proofs.Math.Path.{refl, sym, ap, ap₂}
use Rattle.std.proofs.Common.{◌∙◌, subst, take-take, eqb-true}
use Prim.Native.Nat.{ℕ, ◌+◌, ◌≤◌, ◌<◌}
use native.Mathlib.Omega.{arith}
use Rattle.std.proofs.Math.Decide.{ℕ_discrete}
use Rattle.std.proofs.Math.Bool.{cond}
use Rattle.std.proofs.Math.Option.{Option, none, some}
use mathlib.Core.List.{List, [], ◌∷◌, map, ◌++◌, append_assoc, map-append}
use Rattle.std.proofs.Math.ListN.{length, take}
use Rattle.std.proofs.Math.Seq.{length-take-le}
use Rattle.lists.specs.Lists.{is_some, times, last_or}
use Rattle.lists.specs.ListLaws.{zero_or, All, done, ◌also◌, head_of_all, tail_of, all_join, at_all, times_none, times_join, times_here, times_past, all_take, times_take, last_apart}
use Rattle.lists.specs.Counts.{last_of, one_at_most}
use Rattle.format.specs.Refusals.{ok}
use Rattle.format.specs.Geometry.{Geometry, sectors, Disc, Write}
use Rattle.format.specs.GeometryLaws.{Full}
use Rattle.format.specs.Layout.{name_offset, attribute_offset, attribute_of, protected_as, Slot, directory, free, open_slot, find, file_chain}
use Rattle.format.specs.Check.{broken, sound}
use Rattle.format.specs.Modules.{Module, sectors_for, bodies}
use Rattle.format.proofs.ModuleLaws.{bodies_many}
use Rattle.format.specs.Effects.{slot_write, chained, system_write, entry_bytes, entry_writes, growth, needed, save_writes, delete_writes}
use Rattle.format.specs.Calls.{save_on, delete_on, rename_on, protect_on}
use Rattle.format.proofs.CallLaws.{save_ok, delete_ok, rename_ok, protect_ok}
use Rattle.format.specs.WholeWrites.{Whole}
use Rattle.format.proofs.WholeWrites.{slot_whole, saved_whole, deleted_whole}
use Rattle.format.specs.WriteLaws.{WholeOn}
use Rattle.soundness.specs.WriteFacts.{Removable, removable, Savable, savable}

-- the sectors that are written, in order
abbrev pub targets : List Write → List ℕ
targets ws = map (λ w. w.at) ws

-- writes of sectors of the disc, if they are whole
is_on_disc : (G : Geometry) {ws : List Write} → All (λ n. n < sectors G) (targets ws) → All (Whole G) ws → All (WholeOn G) ws
is_on_disc G h done = done
is_on_disc G h (w also ws) = (head_of_all h, w (head_of_all h)) also is_on_disc G (tail_of h) ws

-- ---- save

chain_targets : (G : Geometry) (ns : List ℕ) (bs : List (List ℕ)) → length ns ≡ length bs → targets (chained G ns bs) ≡ ns
unfolding chained
chain_targets G [] bs e = refl
chain_targets G (n ∷ ns) [] e = absurd (omega arith)
chain_targets G (n ∷ ns) (b ∷ bs) e = ap (λ (r : List ℕ). n ∷ r) (chain_targets G ns bs (omega arith))

module _ (G : Geometry) (d : Disc) where
  -- the sectors that a save takes for the file, and all that it takes
  abbrev pub file_taken : Module → List ℕ
  file_taken m = take (sectors_for (length m.bytes)) (free G d)

  abbrev pub all_taken : Module → List ℕ
  all_taken m = take (sectors_for (length m.bytes) + growth G d) (free G d)

  -- the sectors that it writes after the file's, and the directory's among them
  abbrev pub entry_targets : Module → Option Slot → List ℕ
  entry_targets m (some s) = s.home ∷ []
  entry_targets m none = last_or 0 (all_taken m) ∷ last_or 0 (directory G d) ∷ []

  abbrev pub entry_home : Option Slot → ℕ
  entry_home (some s) = s.home
  entry_home none = last_or 0 (directory G d)

  module _ (nine : List ℕ) (m : Module) (room : needed G d (length m.bytes) ≤ length (free G d)) where
    abbrev k : ℕ
    k = sectors_for (length m.bytes)

    pub taken_long : length (all_taken m) ≡ needed G d (length m.bytes)
    unfolding needed
    taken_long = length-take-le (k + growth G d) (free G d) room

    pub file_long : length (file_taken m) ≡ sectors_for (length m.bytes)
    unfolding needed
    file_long = length-take-le k (free G d) (omega arith)

    file_first : take k (all_taken m) ≡ file_taken m
    file_first = take-take k (k + growth G d) (free G d) (omega arith)

    entry_targets_are : (e : List ℕ) (o : Option Slot) → targets (entry_writes G d e (last_or 0 (all_taken m)) o) ≡ entry_targets m o
    unfolding entry_writes
    entry_targets_are e (some s) = refl
    entry_targets_are e none = refl

    -- the sectors that a save writes, in order
    pub saved_targets : (o : Option Slot) → open_slot G d ≡ o → targets (save_writes G d nine m) ≡ 0 ∷ file_taken m ++ entry_targets m o
    unfolding save_writes system_write
    saved_targets o e =
        let file : List ℕ = take k (all_taken m) in
        ap (λ (r : List ℕ). 0 ∷ r)
        (map-append (λ w. w.at) (chained G file (bodies m)) _
        ∙ ap₂ (λ (a b : List ℕ). a ++ b) (chain_targets G file (bodies m) (ap length file_first ∙ file_long ∙ sym (bodies_many m)) ∙ file_first)
        (entry_targets_are (entry_bytes G nine file) (open_slot G d) ∙ ap (entry_targets m) e))

    grows : (o : Option Slot) → open_slot G d ≡ o → growth G d ≡ cond (is_some o) 0 1
    unfolding growth
    grows o e = ap (λ (o : Option Slot). cond (is_some o) 0 1) e

    as_taken : (o : Option Slot) → open_slot G d ≡ o → file_taken m ++ entry_targets m o ≡ all_taken m ++ entry_home o ∷ []
    unfolding needed
    as_taken (some s) e =
        let none_more : k ≡ k + growth G d = omega (arith, grows (some s) e) in
        ap (λ (j : ℕ). take j (free G d) ++ s.home ∷ []) none_more
    as_taken none e =
        let new : ℕ = last_or 0 (all_taken m) in
        let home : ℕ = last_or 0 (directory G d) in
        let one_more : file_taken m ++ new ∷ [] ≡ all_taken m =
        ap (λ (xs : List ℕ). xs ++ new ∷ []) (sym file_first) ∙ last_apart k 0 (all_taken m) (taken_long ∙ omega (arith, grows none e)) in
        sym (append_assoc (file_taken m) (new ∷ []) (home ∷ [])) ∙ ap (λ (xs : List ℕ). xs ++ home ∷ []) one_more

    -- the same: the system sector, those taken and one of the directory
    pub taken_targets : targets (save_writes G d nine m) ≡ 0 ∷ all_taken m ++ entry_home (open_slot G d) ∷ []
    taken_targets = saved_targets (open_slot G d) refl ∙ ap (λ (r : List ℕ). 0 ∷ r) (as_taken (open_slot G d) refl)

  pub home_lies : Savable G d → (o : Option Slot) → open_slot G d ≡ o → 0 < times (entry_home o) (directory G d)
  home_lies v (some s) e = v.open_home s e
  home_lies v none e = last_of (directory G d) v.some_directory

  pub save_on_disc : Full G d → Savable G d → (nine : List ℕ) (m : Module) → needed G d (length m.bytes) ≤ length (free G d)
      → All (WholeOn G) (save_writes G d nine m)
  save_on_disc z v nine m room =
      let k : ℕ = sectors_for (length m.bytes) in
      let home : entry_home (open_slot G d) < sectors G = v.directory_high _ (home_lies v (open_slot G d) refl) in
      is_on_disc G (subst (All (λ n. n < sectors G)) (sym (taken_targets nine m room))
      (omega (arith, v.used_fits) also all_join (all_take (k + growth G d) (at_all (free G d) v.free_high)) (home also done))) (saved_whole G d z nine m)

  -- sector 0, free sectors and one of the directory's
  apart_once : Savable G d → (xs : List ℕ) (a n : ℕ) → times n xs ≤ times n (free G d) → 0 < times a (directory G d) → times n (0 ∷ xs ++ a ∷ []) ≤ 1
  apart_once v xs a n few h =
      let all : times n (0 ∷ xs ++ a ∷ []) ≤ times n (0 ∷ []) + times n (free G d) + times n (a ∷ []) =
      omega (arith, times_join n (0 ∷ []) (xs ++ a ∷ []), times_join n xs (a ∷ [])) in
      elim (ℕ_discrete n 0) [
        | yes e ↦ omega (
          arith,
          one_at_most n 0,
          zero_or (times n (free G d)) (λ q. omega (arith, v.free_low n q)),
          times_past n a [] (λ w. omega (arith, v.directory_low a h)),
          times_none n,
        )
        | no e ↦ elim (ℕ_discrete n a) [
          | yes w ↦ omega (
            arith,
            times_past n 0 [] e,
            times_none n,
            one_at_most n a,
            zero_or (times n (free G d)) (λ q. omega (arith, v.free_apart n q, ap (λ (j : ℕ). times j (directory G d)) w)),
          )
          | no w ↦ omega (arith, times_past n 0 [] e, times_past n a [] w, times_none n, v.free_once n)
        ]
      ]

  pub save_once : Savable G d → (nine : List ℕ) (m : Module) → needed G d (length m.bytes) ≤ length (free G d)
      → (n : ℕ) → times n (map (λ w. w.at) (save_writes G d nine m)) ≤ 1
  save_once v nine m room n =
      let k : ℕ = sectors_for (length m.bytes) in
      subst (λ (ns : List ℕ). times n ns ≤ 1) (sym (taken_targets nine m room))
      (apart_once v (all_taken m) _ n (times_take n (k + growth G d) (free G d)) (home_lies v (open_slot G d) refl))

  -- ---- delete, rename and protect

  pub delete_on_disc : Full G d → (s : Slot) → Removable G d s → All (WholeOn G) (delete_writes G d s)
  unfolding delete_writes system_write
  delete_on_disc z s r =
      is_on_disc G (r.home_high also r.last_high also omega (arith, r.home_high) also done) (deleted_whole G d z s)

  pub delete_once : (s : Slot) → Removable G d s → (n : ℕ) → times n (map (λ w. w.at) (delete_writes G d s)) ≤ 1
  unfolding delete_writes system_write
  delete_once s r n =
      let last : ℕ = last_or 0 (file_chain G d s) in
      elim (ℕ_discrete n 0) [
        | yes e ↦ omega (
          arith,
          times_past n s.home (last ∷ 0 ∷ []) (λ w. omega (arith, r.home_low)),
          times_past n last (0 ∷ []) (λ w. omega (arith, r.last_low)),
          one_at_most n 0,
        )
        | no e ↦ elim (ℕ_discrete n s.home) [
          | yes w ↦ omega (
            arith,
            times_here n s.home (last ∷ 0 ∷ []) w,
            times_past n last (0 ∷ []) (λ q. r.home_last (sym w ∙ q)),
            times_past n 0 [] e,
            times_none n,
          )
          | no w ↦ omega (
            arith,
            times_past n s.home (last ∷ 0 ∷ []) w,
            times_join n (last ∷ []) (0 ∷ []),
            one_at_most n last,
            times_past n 0 [] e,
            times_none n,
          )
        ]
      ]

  pub slot_on_disc : Full G d → (s : Slot) → s.home < sectors G → (k : ℕ) (xs : List ℕ) → WholeOn G (slot_write d s k xs)
  slot_on_disc z s h k xs = (h, slot_whole G d z s k xs h)

  -- ---- the accepted commands

  module _ (z : Full G d) where
    pub save_listed : (name : List ℕ) (m : Module) (ws : List Write) → save_on G d name m ≡ ok ws → All (WholeOn G) ws
    save_listed name m ws p =
        let q = save_ok G d name m ws p in
        subst (All (WholeOn G)) q.writes (save_on_disc z (savable G d (eqb-true (broken G d) 0 q.checked)) q.nine m q.room)

    found_on : (nine : List ℕ) (s : Slot) → sound G d ≡ true → find G d nine ≡ some s → Removable G d s
    found_on nine s e f = removable G d nine s (eqb-true (broken G d) 0 e) f

    pub delete_listed : (name : List ℕ) (ws : List Write) → delete_on G d name ≡ ok ws → All (WholeOn G) ws
    delete_listed name ws p =
        let q = delete_ok G d name ws p in
        subst (All (WholeOn G)) q.writes (delete_on_disc z q.s (found_on q.nine q.s q.checked q.found))

    pub rename_listed : (old new : List ℕ) (ws : List Write) → rename_on G d old new ≡ ok ws → All (WholeOn G) ws
    rename_listed old new ws p =
        let q = rename_ok G d old new ws p in
        let r = found_on q.nine q.s q.checked q.found in
        subst (All (WholeOn G)) q.writes (slot_on_disc z q.s r.home_high name_offset q.nine' also done)

    pub protect_listed : (name : List ℕ) (on : ℕ) (ws : List Write) → protect_on G d name on ≡ ok ws → All (WholeOn G) ws
    protect_listed name on ws p =
        let q = protect_ok G d name on ws p in
        let r = found_on q.nine q.s q.checked q.found in
        let bytes : List ℕ = protected_as (not (eqb on 0)) (attribute_of q.s) ∷ [] in
        subst (All (WholeOn G)) q.writes (slot_on_disc z q.s r.home_high attribute_offset bytes also done)
