-- The positions of the passing order: their sectors by number, by stop, and by track and sector byte.
-- Assumes nothing.
use Rattle.std.specs.Prelude.{◌≡◌, ℕ, ◌+◌, ◌*◌, ◌/◌, ◌%◌, ◌≤◌, ◌<◌, true, length, get_or, drop}
use Rattle.std.proofs.Common.{sym, ap, ap₂, subst, ◌∙◌, arith, add-one, mod-lt, mul-suc, mul-le-mul, mul-le-mul_left, drop_of_length-le, drop-cons}
use Rattle.std.proofs.Math.Nat.{mul-add-div, div-eq_of_lt, div-add-mod}
use Rattle.format.specs.Geometry.{sector_number, on_disc, stop, go}
use Rattle.format.proofs.GeometryLaws.{is_on_disc, track_range, track_back, sector_back}
use Rattle.format.proofs.Formats.{order_long, order_range}
use Rattle.format.specs.Layout.{track_byte, sector_byte}
use Rattle.format.specs.Effects.{head_of, passing}
use Rattle.geometry.specs.Meaning.{geo, Valid}
use Rattle.geometry.specs.Laws.{good, number_on}
use Rattle.geometry.specs.declared.Geometry.{Geometry}
use Rattle.disc.specs.declared.Address.{Address}
use Rattle.passing.specs.Meaning.{Stop, Passed}
use Rattle.passing.specs.Passing.{passing_at, passing_long}
use Rattle.passing.specs.Stops.{stop_sector}

module _ {g : Geometry} (v : Valid g) where
  pub passing_as_long : length (passing (geo g)) ≡ g.sectors
  passing_as_long = passing_long (geo g) v.some_on_track (order_long (good v)) ∙ sym v.total

  pub many : 9 ≤ g.sectors
  many = omega (arith, mul-le-mul v.nine_on_track v.some_track, v.total)

  -- the sector at a position of the order
  on_track : (k : ℕ) → (1 ≤ get_or (geo g).order (k % (geo g).per_track) 0) × (get_or (geo g).order (k % (geo g).per_track) 0 ≤ (geo g).per_track)
  on_track k = order_range (good v) (k % (geo g).per_track) (mod-lt k v.some_on_track)

  -- ---- the sector at position k

  pub position_on : (k : ℕ) → k < g.sectors → on_disc (geo g) (k / (geo g).per_track) (get_or (geo g).order (k % (geo g).per_track) 0) ≡ true
  position_on k h =
      is_on_disc (geo g) _ _ (track_range (geo g) v.some_on_track k (omega (arith, v.total))) (on_track k).0 (on_track k).1

  pub position_is : (k : ℕ) → k < g.sectors
      → get_or (passing (geo g)) k 0 ≡ sector_number (geo g) (k / (geo g).per_track) (get_or (geo g).order (k % (geo g).per_track) 0)
  position_is k h = passing_at (geo g) v.some_on_track (order_long (good v)) k (omega (arith, v.total))

  pub next_go : (k : ℕ) → k < g.sectors → head_of (drop k (passing (geo g))) ≡ go (get_or (passing (geo g)) k 0)
  next_go k h = ap head_of (drop-cons (passing (geo g)) k 0 (omega (arith, passing_as_long)))

  pub next_end : (k : ℕ) → g.sectors ≤ k → head_of (drop k (passing (geo g))) ≡ stop
  next_end k h = let past : length (passing (geo g)) ≤ k = omega (arith, passing_as_long) in ap head_of (drop_of_length-le (passing (geo g)) past)

  -- ---- position i of a track

  pub next_track : (track : ℕ) → (geo g).per_track * (track + 1) ≡ (geo g).per_track * track + (geo g).per_track
  next_track track = ap (λ (q : ℕ). (geo g).per_track * q) (add-one track) ∙ omega (arith, mul-suc (geo g).per_track track)

  module _ (track i : ℕ) (on : track < g.tracks) (h : i < (geo g).per_track) where
    pub track_inside : (geo g).per_track * track + i < g.sectors
    track_inside = omega (arith, v.total, mul-le-mul_left (geo g).per_track on, mul-suc (geo g).per_track track)

    pub track_of_position : ((geo g).per_track * track + i) / (geo g).per_track ≡ track
    track_of_position = mul-add-div v.some_on_track track i ∙ ap (λ (q : ℕ). track + q) (div-eq_of_lt h) ∙ omega arith

    pub position_of_track : ((geo g).per_track * track + i) % (geo g).per_track ≡ i
    position_of_track =
        let e : (geo g).per_track * (((geo g).per_track * track + i) / (geo g).per_track) ≡ (geo g).per_track * track = ap (λ (q : ℕ). (geo g).per_track * q) track_of_position in
        omega (arith, div-add-mod ((geo g).per_track * track + i) (geo g).per_track)

  -- ---- its sector, and its track and sector as bytes

  module _ (track i : ℕ) (on : track < g.tracks) (h : i < (geo g).per_track) where
    pub at_position : get_or (passing (geo g)) ((geo g).per_track * track + i) 0 ≡ sector_number (geo g) track (get_or (geo g).order i 0)
    at_position =
        position_is _ (track_inside track i on h)
        ∙ ap₂ (λ (t j : ℕ). sector_number (geo g) t (get_or (geo g).order j 0)) (track_of_position track i on h) (position_of_track track i on h)

    pub passed_here : (r : Address) → r.track ≡ track → r.sector ≡ get_or (geo g).order i 0 → Passed g ((geo g).per_track * track + i) r
    passed_here r e f =
        let w = order_range (good v) i h in
        let is = next_go _ (track_inside track i on h) ∙ ap go at_position in
        record {
          track_is = e ∙ sym (ap (track_byte (geo g)) is ∙ track_back (geo g) v.some_on_track _ _ w.0 w.1);
          sector_is = f ∙ sym (ap (sector_byte (geo g)) is ∙ sector_back (geo g) v.some_on_track _ _ w.0 w.1);
        }

  -- the first sector of a track
  pub passed_first : (track : ℕ) → track < g.tracks → (r : Address) → r.track ≡ track → r.sector ≡ get_or (geo g).order 0 0
      → Passed g ((geo g).per_track * track) r
  passed_first track on r e f =
      let begin : (geo g).per_track * track + 0 ≡ (geo g).per_track * track = omega arith in
      subst (λ (k : ℕ). Passed g k r) begin (passed_here track 0 on v.some_on_track r e f)

  pub passed_none : (k : ℕ) → g.sectors ≤ k → (r : Address) → r.track ≡ 0 → r.sector ≡ 0 → Passed g k r
  passed_none k h r e f = record { track_is = e ∙ sym (ap (track_byte (geo g)) (next_end k h)); sector_is = f ∙ sym (ap (sector_byte (geo g)) (next_end k h)) }

  pub position_high : (k : ℕ) → k < g.sectors → get_or (passing (geo g)) k 0 < g.sectors
  position_high k h =
      subst (λ (n : ℕ). n < g.sectors) (sym (position_is k h))
      (number_on v (k / (geo g).per_track) (get_or (geo g).order (k % (geo g).per_track) 0) (position_on k h))

-- the sector at position i of a track, which the code has as a stop
module _ {g : Geometry} (v : Valid g) (track i : ℕ) (on : track < g.tracks) (h : i < (geo g).per_track)
    (stop : ℕ) (is : Stop g (get_or (geo g).order i 0) stop) where
  sector_is : stop % 256 ≡ get_or (geo g).order i 0
  sector_is = stop_sector v _ stop is

  pub stop_number : sector_number (geo g) track (stop % 256) ≡ get_or (passing (geo g)) ((geo g).per_track * track + i) 0
  stop_number = ap (sector_number (geo g) track) sector_is ∙ sym (at_position v track i on h)

  pub here_stop : Stop g (stop % 256) stop
  here_stop = subst (λ (s : ℕ). Stop g s stop) (sym sector_is) is
