-- How often the passing order passes a sector: each sector of the disc once, where the order has each sector of a track once.
-- Assumes nothing.
use Rattle.std.specs.Prelude.{◌≡◌, ◌≢◌, List, map}
use Rattle.std.proofs.Common.{sym, ap, ap₂, ◌∙◌, div-lt_iff_lt-mul}
use Prim.Native.Nat.{ℕ, zero, suc, ◌+◌, ◌≤◌, ◌<◌}
use native.Mathlib.Omega.{arith}
use Rattle.std.proofs.Math.Decide.{ℕ_discrete, dec_lt}
use Rattle.std.proofs.Math.Nat.{mul_comm}
use Rattle.lists.specs.Lists.{range, joined, times, Once}
use Rattle.lists.specs.ListLaws.{All, done, ◌also◌, times_none, times_join, times_here, times_past, once_inside}
use Rattle.format.specs.Geometry.{Geometry, sectors, sector_number, track_of, sector_of}
use Rattle.format.proofs.GeometryLaws.{number_back, track_back, sector_back, sector_range, track_range}
use Rattle.format.specs.Effects.{passing}

module _ (G : Geometry) (some_sector : 0 < G.per_track) (once : Once (suc G.per_track) G.order) where
  inside : All (λ s. (1 ≤ s) × (s ≤ G.per_track)) G.order
  inside = once_inside once

  track_none : (t n : ℕ) {ss : List ℕ} → All (λ s. (1 ≤ s) × (s ≤ G.per_track)) ss → t ≢ track_of G n → times n (map (sector_number G t) ss) ≡ 0
  track_none t n done h = times_none n
  track_none t n (◌also◌ {x = s} {xs = ss} k ks) h =
      times_past n (sector_number G t s) (map (sector_number G t) ss) (λ e. h (sym (ap (track_of G) e ∙ track_back G some_sector t s k.0 k.1)))
      ∙ track_none t n ks h

  track_same : (t n : ℕ) {ss : List ℕ} → All (λ s. (1 ≤ s) × (s ≤ G.per_track)) ss → t ≡ track_of G n
      → times n (map (sector_number G t) ss) ≡ times (sector_of G n) ss
  track_same t n done h = times_none n ∙ sym (times_none (sector_of G n))
  track_same t n (◌also◌ {x = s} {xs = ss} k ks) h =
      let rest = track_same t n ks h in
      let here : ℕ = sector_number G t s in
      let others : List ℕ = map (sector_number G t) ss in
      elim (ℕ_discrete (sector_of G n) s) [
        | yes e ↦
            let is : n ≡ here = sym (ap₂ (sector_number G) h (sym e) ∙ number_back G some_sector n) in
            omega (arith, times_here (sector_of G n) s ss e, times_here n here others is)
        | no e ↦
            let other : n ≢ here = λ w. e (ap (sector_of G) w ∙ sector_back G some_sector t s k.0 k.1) in
            omega (arith, times_past (sector_of G n) s ss e, times_past n here others other)
      ]

  track : ℕ → List ℕ
  track t = map (sector_number G t) G.order

  tracks_none : (n a k : ℕ) → (a ≤ track_of G n → a + k ≤ track_of G n) → times n (joined (map track (range a k))) ≡ 0
  unfolding track
  tracks_none n a zero h = times_none n
  tracks_none n a (suc k) h =
      let rest = tracks_none n (suc a) k (λ l. omega (arith, h (omega arith))) in
      omega (arith, times_join n (track a) (joined (map track (range (suc a) k))), track_none a n inside (λ e. omega (arith, h (omega arith))))

  tracks_one : (n a k : ℕ) → a ≤ track_of G n → track_of G n < a + k → times n (joined (map track (range a k))) ≡ 1
  unfolding track
  tracks_one n a zero h l = absurd (omega arith)
  tracks_one n a (suc k) h l =
      let joins = times_join n (track a) (joined (map track (range (suc a) k))) in
      elim (ℕ_discrete a (track_of G n)) [
        | yes e ↦
            let here = once.inside (sector_of G n) (omega arith) (omega (arith, sector_range G some_sector n)) in
            omega (arith, track_same a n inside e, tracks_none n (suc a) k (λ w. absurd (omega arith)))
        | no e ↦ omega (arith, track_none a n inside e, tracks_one n (suc a) k (omega arith) (omega arith))
      ]

  pub passed_once : (n : ℕ) → n < sectors G → times n (passing G) ≡ 1
  unfolding passing track
  passed_once n h = tracks_one n 0 G.tracks (omega arith) (omega (arith, track_range G some_sector n h))

  pub passed_not : (n : ℕ) → sectors G ≤ n → times n (passing G) ≡ 0
  unfolding passing track
  passed_not n h = tracks_none n 0 G.tracks (λ l. elim (dec_lt (track_of G n) G.tracks) [
    | yes w ↦ absurd (omega (arith, (div-lt_iff_lt-mul some_sector).0 w, mul_comm G.per_track G.tracks))
    | no w ↦ omega arith
  ])
