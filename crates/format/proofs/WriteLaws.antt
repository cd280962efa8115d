-- Laws of Writes: how long a list is; and bytes hold writes just where they are the list of whole sectors of the disc.
-- Assumes nothing.
use Rattle.std.specs.Prelude.{◌≡◌, Bool, ◌&&◌, length, drop}
use Rattle.std.proofs.Math.Path.{refl, sym, ap}
use Rattle.std.proofs.Common.{◌∙◌, arith, take-append-drop, drop_at, eqb-true, ne_eqb}
use Prim.Native.Nat.{ℕ, zero, suc, ◌≤◌, ◌<◌}
use Rattle.std.proofs.Math.Bool.{true, false, cond}
use Rattle.std.proofs.Math.Option.{Option, none, some}
use mathlib.Core.List.{List, [], ◌∷◌, ◌++◌}
use Rattle.std.proofs.Math.ListN.{take, length-append}
use Rattle.std.proofs.Math.Seq.{take_at, length-take-le}
use Rattle.std.proofs.Math.Dec.{eqb}
use Rattle.lists.specs.Lists.{byte}
use Rattle.lists.specs.ListLaws.{and_true, All, done, ◌also◌, all_map}
use Rattle.format.specs.Refusals.{BAD-LIST, ok, ◌or_refuse◌}
use Rattle.format.proofs.RefusalLaws.{refused_ok, ok_is}
use Rattle.format.specs.Geometry.{Geometry, sectors, sector_number, on_disc, track_of, sector_of, Disc, Write}
use Rattle.format.proofs.GeometryLaws.{is_on_disc, on_disc_is, number_below, number_back, track_back, sector_back, sector_range, track_range}
use Rattle.format.specs.WholeWrites.{Whole}
use Rattle.format.specs.Writes.{record_of, write_list, list_size, and_then, ended, write_of, by_kind, held_after, held}
use Rattle.format.specs.Calls.{replay_on}
use Rattle.format.specs.WriteLaws.{WholeOn}

module _ (G : Geometry) where
  pub list_long : {ws : List Write} → All (WholeOn G) ws → length (write_list G ws) ≡ list_size (length ws)
  unfolding write_list record_of
  list_long done = refl
  list_long (◌also◌ {x = w} {xs = ws} h hs) = omega (arith, length-append w.bytes (write_list G ws), list_long hs, h.1)

  -- ---- bytes that belong to a record

  passed : (k : ℕ) (xs : List ℕ) → k ≤ length xs → held_after G k xs ≡ held G (drop k xs)
  unfolding held_after
  passed zero xs h = refl
  passed (suc k) [] h = absurd (omega arith)
  passed (suc k) (x ∷ xs) h = passed k xs (omega arith)

  cut_short : (k : ℕ) (xs : List ℕ) → length xs < k → held_after G k xs ≡ none
  unfolding held_after
  cut_short zero xs h = absurd (omega arith)
  cut_short (suc k) [] h = refl
  cut_short (suc k) (x ∷ xs) h = cut_short k xs (omega arith)

  -- a record's bytes in front
  pub held_record : (xs : List ℕ) → 259 ≤ length xs → held G xs ≡ by_kind G (byte xs 0) (drop 1 xs) (held G (drop 259 xs))
  unfolding held_after
  held_record [] h = absurd (omega arith)
  held_record (k ∷ xs) h = ap (by_kind G k xs) (passed 258 xs (omega arith))

  -- too few bytes for a record
  pub held_end : (xs : List ℕ) → length xs < 259 → held G xs ≡ cond (eqb (length xs) 1 && eqb (byte xs 0) 0) (some []) none
  unfolding held_after
  held_end [] h = refl
  held_end (k ∷ []) h = by (eqb k 0) (eqb k 3 && on_disc G 0 0)
    where
      by : (zero three : Bool) → cond {A = Option (List Write)} zero (some []) (cond three none none) ≡ cond zero (some []) none
      by true b = refl
      by false true = refl
      by false false = refl
  held_end (k ∷ x ∷ xs) h =
      ap (by_kind G k (x ∷ xs)) (cut_short 258 (x ∷ xs) (omega arith)) ∙ by (eqb k 0) (eqb k 3 && on_disc G x (byte xs 0))
      ∙ sym (ap (λ (b : Bool). cond {A = Option (List Write)} (b && eqb k 0) (some []) none) (ne_eqb (length (k ∷ x ∷ xs)) 1 (λ e. omega arith)))
    where
      by : (zero three : Bool) → cond {A = Option (List Write)} zero none (cond three none none) ≡ none
      by true b = refl
      by false true = refl
      by false false = refl

  -- ---- a list holds its writes

  pub held_list : 0 < G.per_track → {ws : List Write} → All (WholeOn G) ws → held G (write_list G ws) ≡ some ws
  unfolding write_list record_of held_after
  held_list some_sector done = refl
  held_list some_sector (◌also◌ {x = w} {xs = ws} h hs) =
      let rest : List ℕ = write_list G ws in
      let on : on_disc G (track_of G w.at) (sector_of G w.at) ≡ true =
      is_on_disc G (track_of G w.at) (sector_of G w.at) (track_range G some_sector w.at h.0) (omega arith) (sector_range G some_sector w.at) in
      let is : write_of G (track_of G w.at ∷ sector_of G w.at ∷ w.bytes ++ rest) ≡ w =
      λ i. record { at = number_back G some_sector w.at i; bytes = take_at w.bytes rest 256 h.1 i } in
      let after : held_after G 256 (w.bytes ++ rest) ≡ some ws =
      passed 256 (w.bytes ++ rest) (omega (arith, length-append w.bytes rest, h.1))
      ∙ ap (held G) (drop_at w.bytes rest 256 h.1) ∙ held_list some_sector hs in
      rw (on, after) (ap (λ (v : Write). some (v ∷ ws)) is)

  -- ---- what holds writes is their list

  one_record : (t s : ℕ) → on_disc G t s ≡ true → (sector_number G t s < sectors G) × (track_of G (sector_number G t s) ≡ t) × (sector_of G (sector_number G t s) ≡ s)
  one_record t s e =
      let h = on_disc_is G t s e in
      let some_sector : 0 < G.per_track = omega (arith, h.1, h.2) in
      (number_below G some_sector t s h.0 h.1 h.2, track_back G some_sector t s h.1 h.2, sector_back G some_sector t s h.1 h.2)

  -- from the k-th byte on
  record HeldFrom (k : ℕ) (xs : List ℕ) (ws : List Write) : Type 0 where
    long : k ≤ length xs
    whole : All (WholeOn G) ws
    is : drop k xs ≡ write_list G ws

  record_front : (xs : List ℕ) (ws : List Write) → on_disc G (byte xs 0) (byte xs 1) ≡ true → HeldFrom 258 xs ws
      → HeldFrom 0 (3 ∷ xs) (write_of G xs ∷ ws)
  unfolding write_list record_of
  record_front [] ws e r = absurd (omega (arith, r.long))
  record_front (t ∷ []) ws e r = absurd (omega (arith, r.long))
  record_front (t ∷ s ∷ xs) ws e r =
      let one = one_record t s e in
      let n : ℕ = sector_number G t s in
      let there : t ∷ s ∷ xs ≡ track_of G n ∷ sector_of G n ∷ xs = λ i. sym one.1 i ∷ sym one.2 i ∷ xs in
      record {
        long = omega arith;
        whole = (one.0, length-take-le 256 xs (omega (arith, r.long))) also r.whole;
        is =
            ap (λ (q : List ℕ). 3 ∷ q) there
            ∙ ap (λ (q : List ℕ). 3 ∷ track_of G n ∷ sector_of G n ∷ q) (sym (take-append-drop 256 xs) ∙ ap (λ (q : List ℕ). take 256 xs ++ q) r.is);
      }

  none_some : {A : Type 0} {x : A} → none ≡ some x → ⊥
  none_some p = let z : ◌≡◌ {A = ℕ} 0 1 = cc in omega arith

  held_from : (k : ℕ) (xs : List ℕ) (ws : List Write) → held_after G k xs ≡ some ws → HeldFrom k xs ws
  unfolding held_after write_list
  held_from (suc k) [] ws e = absurd (none_some e)
  held_from (suc k) (x ∷ xs) ws e = let r = held_from k xs ws e in record { long = omega (arith, r.long); whole = r.whole; is = r.is }
  held_from zero [] ws e = absurd (none_some e)
  held_from zero (kind ∷ xs) ws e = zeroth (held_from 258 xs) (eqb kind 0) refl e
    where
      ends : (ys : List ℕ) → kind ≡ 0 → ended ys ≡ some ws → HeldFrom 0 (kind ∷ ys) ws
      ends [] z p = let is : [] ≡ ws = cc in rw (← is, z) (record { long = omega arith; whole = done; is = refl })
      ends (y ∷ ys) z p = absurd (none_some p)

      -- what follows the record
      After : Type 0
      After = (us : List Write) → held_after G 258 xs ≡ some us → HeldFrom 258 xs us

      goes : After → kind ≡ 3 → on_disc G (byte xs 0) (byte xs 1) ≡ true → (rest : Option (List Write)) → held_after G 258 xs ≡ rest
          → and_then (write_of G xs) rest ≡ some ws → HeldFrom 0 (kind ∷ xs) ws
      goes rest z on none q p = absurd (none_some p)
      goes rest z on (some us) q p = let is : write_of G xs ∷ us ≡ ws = cc in rw (← is, z) (record_front xs us on (rest us q))

      third : After → (b : Bool) → (eqb kind 3 && on_disc G (byte xs 0) (byte xs 1)) ≡ b
          → cond b (and_then (write_of G xs) (held_after G 258 xs)) none ≡ some ws → HeldFrom 0 (kind ∷ xs) ws
      third rest true t p = let h = and_true (eqb kind 3) _ t in goes rest (eqb-true kind 3 h.0) h.1 (held_after G 258 xs) refl p
      third rest false t p = absurd (none_some p)

      zeroth : After → (b : Bool) → eqb kind 0 ≡ b
          → cond b (ended xs) (cond (eqb kind 3 && on_disc G (byte xs 0) (byte xs 1)) (and_then (write_of G xs) (held_after G 258 xs)) none) ≡ some ws
          → HeldFrom 0 (kind ∷ xs) ws
      zeroth rest true t p = ends xs (eqb-true kind 0 t) p
      zeroth rest false t p = third rest (eqb kind 3 && on_disc G (byte xs 0) (byte xs 1)) refl p

  pub list_held : (xs : List ℕ) (ws : List Write) → held G xs ≡ some ws → All (WholeOn G) ws × (xs ≡ write_list G ws)
  list_held xs ws e = let r = held_from 0 xs ws e in (r.whole, r.is)

  -- what a replay writes
  pub replay_whole : (d : Disc) (list : List ℕ) (ws : List Write) → replay_on G d list ≡ ok ws → All (Whole G) ws
  unfolding replay_on ◌or_refuse◌
  replay_whole d list ws = by (held G list) refl
    where
      by : (o : Option (List Write)) → held G list ≡ o → (o or_refuse BAD-LIST) ≡ ok ws → All (Whole G) ws
      by none e p = absurd (refused_ok p)
      by (some us) e p = all_map (λ w h l. h.1) (list_held list ws (e ∙ ap some (ok_is p))).0
