-- What a repair writes where rules 1 to 5 hold: the sectors without a mark are those that it threads, and the whole is its list of writes.
-- Assumes nothing.
use Rattle.std.specs.Prelude.{◌≡◌, Bool, true, false}
use Rattle.std.proofs.Math.Path.{refl, ap, ap₂}
use Rattle.std.proofs.Common.{◌∙◌, arith}
use Prim.Native.Nat.{ℕ, ◌≤◌, ◌<◌}
use Rattle.std.proofs.Math.Decide.{dec_le}
use Rattle.std.proofs.Math.Nat.{lt_of_not-le}
use Rattle.std.proofs.Math.Bool.{not}
use mathlib.Core.List.{List, [], ◌∷◌, ◌++◌, map}
use Rattle.std.proofs.Math.ListN.{length}
use Rattle.lists.specs.Lists.{elem, cons_if, filter, times}
use Rattle.lists.specs.ListLaws.{All, done, ◌also◌, all_map, at_all, all_filter}
use Rattle.format.specs.Geometry.{Geometry, sectors, Next, Disc, sector, pointed, written}
use Rattle.format.proofs.GeometryLaws.{sector_full}
use Rattle.format.specs.Layout.{track_byte, sector_byte, directory, file_sectors}
use Rattle.format.specs.Effects.{body, head_of, chained, system_write, passing, unmet, repair_writes}
use Rattle.lists.specs.Counts.{times_kept, times_lost}
use Rattle.soundness.specs.Passing.{passed_once, passed_not}
use Rattle.soundness.specs.Pointers.{Bounded, head_pointable, pair_back}
use Rattle.geometry.specs.Meaning.{geo, sectors_of, Valid, Image}
use Rattle.disc.specs.Meaning.{meaning}
use Rattle.geometry.specs.Laws.{good, image_full}
use Rattle.geometry.specs.declared.Geometry as code
use Rattle.disc.specs.declared.Link.{Link}
use Rattle.geometry.specs.declared.SectorNo.{SectorNo}
use Rattle.disc.specs.declared.Address.{Address}
use Rattle.fsck_chains.specs.Marks.{clear}
use Rattle.fsck.specs.Rules.{marks_of, Stood, clear_is}
use Rattle.repairing.specs.Threads.{linked, unmarked, linked_system}
use Rattle.repairing.specs.Meaning.{Threaded}

filter_same : {p q : ℕ → Bool} {xs : List ℕ} → All (λ n. p n ≡ q n) xs → filter p xs ≡ filter q xs
filter_same done = refl
filter_same {p = p} {q = q} (◌also◌ {x = x} {xs = xs} h hs) = ap₂ (λ (b : Bool) (r : List ℕ). cons_if b x r) h (filter_same hs)

times_filter : (p : ℕ → Bool) (n : ℕ) (xs : List ℕ) → times n (filter p xs) ≤ times n xs
times_filter p n xs = by (p n) refl
  where
    by : (b : Bool) → p n ≡ b → times n (filter p xs) ≤ times n xs
    by true e = omega (arith, times_kept p n xs e)
    by false e = omega (arith, times_lost p n xs e)

module _ {g : code.Geometry} {image : List ℕ} (i : Image g image) where
  abbrev G : Geometry
  G = geo g

  abbrev d : Disc
  d = sectors_of g image

  v : Valid g
  v = i.valid

  -- ---- the sectors that the chain passes

  passing_below : All (λ n. n < sectors G) (passing G)
  unfolding v
  passing_below = at_all (passing G) (λ n h. elim (dec_le (sectors G) n) [
    | yes l ↦ absurd (omega (arith, h, passed_not G v.some_on_track (good v).passes_once n l))
    | no l ↦ lt_of_not-le l
  ])

  passed_few : (n : ℕ) → times n (passing G) ≤ 1
  unfolding v
  passed_few n = elim (dec_le (sectors G) n) [
    | yes l ↦ omega (arith, passed_not G v.some_on_track (good v).passes_once n l)
    | no l ↦ omega (arith, passed_once G v.some_on_track (good v).passes_once n (lt_of_not-le l))
  ]

  -- ---- those that nothing meets

  unmarked_unmet : {m : List ℕ} → m ≡ marks_of (directory G d ++ file_sectors G d) → unmarked G m 0 ≡ unmet G d
  unfolding unmarked unmet v
  unmarked_unmet {m} e = filter_same {p = clear m} (all_map (λ n h. clear_is v d e n (omega (arith, v.total))) passing_below)

  unmet_below : All (λ n. n < sectors G) (unmet G d)
  unfolding unmet
  unmet_below = all_filter _ passing_below

  unmet_long : All (λ n. 2 ≤ length (sector d n)) (unmet G d)
  unmet_long = all_map (λ n h. omega (arith, sector_full (image_full i) n h)) unmet_below

  unmet_once : (n : ℕ) → times n (unmet G d) ≤ 1
  unfolding unmet
  unmet_once n = omega (arith, times_filter (λ n. not (elem n (0 ∷ directory G d ++ file_sectors G d))) n (passing G), passed_few n)

  unmet_system : times 0 (unmet G d) ≡ 0
  unfolding unmet
  unmet_system = times_lost (λ n. not (elem n (0 ∷ directory G d ++ file_sectors G d))) 0 (passing G) refl

  -- ---- what is written

  -- the track and sector byte of the first of them lead back to it
  first_back : pointed G (track_byte G (head_of (unmet G d))) (sector_byte G (head_of (unmet G d))) ≡ head_of (unmet G d)
  unfolding v
  first_back =
      let bounded : Bounded G = record { some_sector = v.some_on_track; few = omega (arith, v.total, v.few_sectors) } in
      pair_back G bounded (head_pointable unmet_below)

  -- the sectors are threaded, and then the system sector is written
  module _ {m threaded : List ℕ} {used count : ℕ} {first : Address} (s : Stood G d used m) (t : Threaded g m image 0 first count threaded) where
    pub repaired : (to : Link SectorNo) → meaning to ≡ pointed G first.track first.sector → (after : List ℕ)
        → sectors_of g after ≡ written (system_write G (sectors_of g threaded) (meaning to) count used ∷ []) (sectors_of g threaded)
        → sectors_of g after ≡ written (repair_writes G d) d
    unfolding repair_writes
    repaired to points after e =
        let ns : List ℕ = unmet G d in
        let is : unmarked G m 0 ≡ ns = unmarked_unmet s.marks in
        let from : Next → Next = λ p. pointed G (track_byte G p) (sector_byte G p) in
        let leads : meaning to ≡ head_of ns = points ∙ ap₂ (pointed G) t.track_is t.sector_is ∙ ap (λ (xs : List ℕ). from (head_of xs)) is ∙ first_back in
        let counted : count ≡ length ns = t.counted ∙ ap length is in
        let sectors_are : sectors_of g threaded ≡ linked G ns d = t.sectors_are ∙ ap (λ (xs : List ℕ). linked G xs d) is in
        e
        ∙ ap (λ (x : Disc). written (system_write G x (meaning to) count used ∷ []) x) sectors_are
        ∙ ap₂ (λ (p : Next) (k : ℕ). written (system_write G (linked G ns d) p k used ∷ []) (linked G ns d)) leads counted
        ∙ linked_system G ns d (length ns) used unmet_long unmet_once unmet_system
        ∙ ap (λ (u : ℕ). written (system_write G d (head_of ns) (length ns) u ∷ chained G ns (map (λ n. body (sector d n)) ns)) d) s.used
