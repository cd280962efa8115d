-- What the loops that thread the free sectors have done when they have come to position k of the passing order, and their turns.
-- Assumes nothing.
use Rattle.std.specs.Prelude.{◌≡◌, refl, ◌≢◌, get_or}
use Rattle.std.proofs.Common.{sym, ◌∙◌, arith, drop_of_length-le, eq-eqb, ne_eqb}
use Rattle.std.proofs.Math.Path.{ap, ap₂}
use Prim.Native.Nat.{ℕ, ◌+◌, ◌*◌, ◌/◌, ◌%◌, ◌≤◌, ◌<◌}
use mathlib.Core.List.{List, [], ◌∷◌}
use Rattle.std.proofs.Math.ListN.{length}
use Rattle.lists.specs.Lists.{filter}
use Rattle.format.specs.Geometry.{Disc, sector_number}
use Rattle.format.specs.Layout.{link_offset, link_bytes, track_byte, sector_byte}
use Rattle.format.specs.Effects.{head_of, passing}
use Rattle.geometry.specs.Meaning.{geo, sectors_of, Valid}
use Rattle.disc.specs.Meaning.{stored_at}
use Rattle.geometry.specs.declared.Geometry.{Geometry}
use Rattle.disc.specs.declared.Address.{Address}
use Rattle.passing.specs.Meaning.{Stop, Passed}
use Rattle.passing.specs.Positions.{passing_as_long, next_go, track_inside, stop_number}
use Rattle.fsck_chains.specs.Marks.{clear}
use Rattle.repairing.specs.Threads.{linked, unmarked, unmarked_more, unmarked_same}

-- the sectors without a mark, from position k on, are linked; track and sector byte of the first of them, and how many they are
pub record Threaded (g : Geometry) (m before : List ℕ) (k : ℕ) (first : Address) (count : ℕ) (after : List ℕ) : Type 0 where
  pub kept : length after ≡ length before
  pub track_is : first.track ≡ track_byte (geo g) (head_of (unmarked (geo g) m k))
  pub sector_is : first.sector ≡ sector_byte (geo g) (head_of (unmarked (geo g) m k))
  pub counted : count ≡ length (unmarked (geo g) m k)
  pub sectors_are : sectors_of g after ≡ linked (geo g) (unmarked (geo g) m k) (sectors_of g before)

-- a chain that begins at position j is extended to position k: where the sectors from j on were threaded, those from k on are
pub record Extends (g : Geometry) (m : List ℕ) (j : ℕ) (first₀ : Address) (count₀ : ℕ) (x : List ℕ)
    (k : ℕ) (first : Address) (count : ℕ) (y : List ℕ) : Type 0 where
  pub few : count + k ≤ g.sectors
  pub threads : (before : List ℕ) → Threaded g m before j first₀ count₀ x → Threaded g m before k first count y

-- the address that a link has, whose two bytes are carried as one number, the track in the low byte
abbrev pub address_in : ℕ → Address
address_in link = record { track = link % 256; sector = link / 256 % 256 }

-- and no other: two bytes put together to a number come out of it again
pub address_in_is : {link : ℕ} (first : Address) → link ≡ first.track + 256 * first.sector → first.track < 256 → first.sector < 256
    → address_in link ≡ first
address_in_is first e t s =
    let joined : ℕ → ℕ → Address = λ t s. record { track = t; sector = s } in
    ap₂ joined (omega (arith, e, t)) (omega (arith, e, t, s))

-- nothing is linked
pub thread_start : {g : Geometry} → Valid g → (m image : List ℕ) (k : ℕ) → k ≡ g.sectors → (first : Address) → first.track ≡ 0 → first.sector ≡ 0
    → Threaded g m image k first 0 image
unfolding linked unmarked
thread_start {g} v m image k e first t s =
    record {
      kept = refl;
      track_is = t ∙ ap (λ (ns : List ℕ). track_byte (geo g) (head_of ns)) (sym none);
      sector_is = s ∙ ap (λ (ns : List ℕ). sector_byte (geo g) (head_of ns)) (sym none);
      counted = ap length (sym none);
      sectors_are = ap (λ (ns : List ℕ). linked (geo g) ns (sectors_of g image)) (sym none);
    }
  where
    none : unmarked (geo g) m k ≡ []
    none =
        let past : length (passing (geo g)) ≤ k = omega (arith, passing_as_long v) in
        ap (filter (clear m)) (drop_of_length-le (passing (geo g)) past)

-- ---- the sector at position k, before a chain that begins at the next

module _ {g : Geometry} (v : Valid g) {m before : List ℕ} (j k : ℕ) (next : j ≡ k + 1) (on : k < g.sectors) {first : Address} {count : ℕ} {after : List ℕ}
    (t : Threaded g m before j first count after) where
  abbrev n : ℕ
  n = get_or (passing (geo g)) k 0

  inside : k < length (passing (geo g))
  inside = omega (arith, passing_as_long v)

  -- has a mark
  thread_skip : get_or m n 0 ≢ 0 → Threaded g m before k first count after
  thread_skip h =
      let same = sym (unmarked_same (geo g) m k j next inside (ne_eqb (get_or m n 0) 0 h)) in
      record {
        kept = t.kept;
        track_is = t.track_is ∙ ap (λ (ns : List ℕ). track_byte (geo g) (head_of ns)) same;
        sector_is = t.sector_is ∙ ap (λ (ns : List ℕ). sector_byte (geo g) (head_of ns)) same;
        counted = t.counted ∙ ap length same;
        sectors_are = t.sectors_are ∙ ap (λ (ns : List ℕ). linked (geo g) ns (sectors_of g before)) same;
      }

  -- has none, and is linked to the first
  thread_more : {r : Address} {new : List ℕ} → get_or m n 0 ≡ 0 → Passed g k r → length new ≡ length after
      → sectors_of g new ≡ stored_at (sectors_of g after) n link_offset (first.track ∷ first.sector ∷ []) → Threaded g m before k r (count + 1) new
  unfolding linked
  thread_more {r} {new} h p same e =
      let ns : List ℕ = unmarked (geo g) m j in
      let more : unmarked (geo g) m k ≡ n ∷ ns = unmarked_more (geo g) m k j next inside (eq-eqb (get_or m n 0) 0 h) in
      let here = next_go v k on in
      record {
        kept = same ∙ t.kept;
        track_is = p.track_is ∙ ap (track_byte (geo g)) here ∙ ap (λ (ns : List ℕ). track_byte (geo g) (head_of ns)) (sym more);
        sector_is = p.sector_is ∙ ap (sector_byte (geo g)) here ∙ ap (λ (ns : List ℕ). sector_byte (geo g) (head_of ns)) (sym more);
        counted = omega (arith, t.counted, ap length more);
        sectors_are = e
            ∙ ap₂ (λ (a b : ℕ). stored_at (sectors_of g after) n link_offset (a ∷ b ∷ [])) t.track_is t.sector_is
            ∙ ap (λ (d : Disc). stored_at d n link_offset (link_bytes (geo g) (head_of ns))) t.sectors_are
            ∙ ap (λ (xs : List ℕ). linked (geo g) xs (sectors_of g before)) (sym more);
      }

-- ---- the turns of the loop along a track, whose sector n at position i the code has as a stop

module _ {g : Geometry} (v : Valid g) (track i : ℕ) (on : track < g.tracks) (h : i < (geo g).per_track) (stop : ℕ) (is : Stop g (get_or (geo g).order i 0) stop)
    (n : ℕ) (numbered : n ≡ sector_number (geo g) track (stop % 256))
    {m x : List ℕ} {from : ℕ} {first₀ : Address} {count₀ : ℕ} (j : ℕ) (next : j ≡ (geo g).per_track * track + i + 1) {first : Address} {count : ℕ} {y : List ℕ}
    (t : Extends g m from first₀ count₀ x j first count y) where
  abbrev position : ℕ
  position = (geo g).per_track * track + i

  sector_is : n ≡ get_or (passing (geo g)) position 0
  sector_is = numbered ∙ stop_number v track i on h stop is

  mark_is : get_or m (get_or (passing (geo g)) position 0) 0 ≡ get_or m n 0
  mark_is = ap (λ (n : ℕ). get_or m n 0) (sym sector_is)

  pub extend_skip : get_or m n 0 ≢ 0 → Extends g m from first₀ count₀ x position first count y
  extend_skip marked =
      record {
        few = omega (arith, t.few);
        threads = λ before b. thread_skip v j position next (track_inside v track i on h) (t.threads before b) (λ e. marked (sym mark_is ∙ e));
      }

  pub extend_more : {r : Address} {new : List ℕ} → get_or m n 0 ≡ 0 → Passed g position r → length new ≡ length y
      → sectors_of g new ≡ stored_at (sectors_of g y) n link_offset (first.track ∷ first.sector ∷ [])
      → Extends g m from first₀ count₀ x position r (count + 1) new
  extend_more {r} {new} clear p same e =
      let stored = e ∙ ap (λ (n : ℕ). stored_at (sectors_of g y) n link_offset (first.track ∷ first.sector ∷ [])) sector_is in
      record {
        few = omega (arith, t.few);
        threads = λ before b. thread_more v j position next (track_inside v track i on h) (t.threads before b) (mark_is ∙ clear) p same stored;
      }
