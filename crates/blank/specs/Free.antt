-- What is free on a blank disc: all sectors but the first two that its chain passes.
-- Assumes nothing.
use Rattle.std.specs.Prelude.{◌≡◌, refl, ◌≢◌, ℕ, zero, suc, ◌≤◌, ◌<◌, Bool, true, false, not, List, [], ◌∷◌, ◌++◌, map, drop}
use Rattle.std.proofs.Common.{sym, ap, ap₂, ◌∙◌, subst, arith, mul-le-mul, ne_eqb}
use Rattle.lists.specs.Lists.{filter, elem, range, joined, times, Once}
use Rattle.lists.specs.ListLaws.{All, done, all_map, all_mapped, all_join, at_all, filter_join, filter_no, times_here, times_past, once_inside, filter_whole}
use Rattle.format.specs.Geometry.{Format, Geometry, tracked, sector_number}
use Rattle.format.specs.Formats.{GoodFormat}
use Rattle.format.proofs.Formats.{order_begins, four}
use Rattle.format.specs.Effects.{passing, blank_directory, blank_free}

module _ (F : Format) (f : GoodFormat F) (T : ℕ) where
  abbrev G : Geometry
  G = tracked F T

  abbrev is_free : ℕ → Bool
  is_free n = not (elem n (0 ∷ blank_directory G ∷ []))

  -- the sectors that the chain passes on a track after the first two
  abbrev others : List ℕ
  others = drop 2 F.order

  -- 0/4 is sector number 3
  fourth : blank_directory G ≡ 3
  fourth = omega arith

  free_else : (n : ℕ) → n ≢ 0 → n ≢ 3 → is_free n ≡ true
  free_else n a b = rw fourth (simp (ne_eqb n 0 a, ne_eqb n 3 b))

  first_taken : is_free (sector_number G 0 1) ≡ false
  first_taken = let first : sector_number G 0 1 ≡ 0 = omega arith in ap is_free first

  fourth_taken : is_free (sector_number G 0 4) ≡ false
  fourth_taken = rw fourth refl

  -- the first two do not come again
  not_again : (s : ℕ) → 0 < times s others → (s ≢ 0) × (s ≢ 1) × (s ≢ 4)
  not_again s h =
      let o = subst (Once (suc F.per_track)) (order_begins f) f.passes_once in
      let none : times 0 others ≡ 0 = sym (times_past 0 1 (4 ∷ others) (λ q. omega arith) ∙ times_past 0 4 others (λ q. omega arith)) ∙ o.zeroth in
      let one = times_here 1 1 (4 ∷ others) refl ∙ ap suc (times_past 1 4 others (λ q. omega arith)) in
      let fourth = times_past 4 1 (4 ∷ others) (λ q. omega arith) ∙ times_here 4 4 others refl in (
        λ e. omega (arith, ap (λ (m : ℕ). times m others) e, none),
        λ e. omega (arith, ap (λ (m : ℕ). times m others) e, one, o.inside 1 (omega arith) (omega (arith, four f))),
        λ e. omega (arith, ap (λ (m : ℕ). times m others) e, fourth, o.inside 4 (omega arith) (omega (arith, four f))),
      )

  others_free : All (λ n. is_free n ≡ true) (map (sector_number G 0) others)
  others_free =
      all_mapped (sector_number G 0)
      (at_all others (λ s h. let w = not_again s h in free_else (sector_number G 0 s) (λ e. omega (arith, w.0, w.1)) (λ e. omega (arith, w.0, w.2))))

  later_track : (t : ℕ) → 1 ≤ t → All (λ n. is_free n ≡ true) (map (sector_number G t) F.order)
  later_track t h =
      let past = mul-le-mul (four f) h in
      all_mapped (sector_number G t)
      (all_map (λ s e. free_else (sector_number G t s) (λ z. omega (arith, past, e)) (λ z. omega (arith, past, e))) (once_inside f.passes_once))

  later_tracks : (a k : ℕ) → 1 ≤ a → All (λ n. is_free n ≡ true) (joined (map (λ t. map (sector_number G t) F.order) (range a k)))
  later_tracks a zero h = done
  later_tracks a (suc k) h = all_join (later_track a h) (later_tracks (suc a) k (omega arith))

  -- the first track
  first_free : filter is_free (map (sector_number G 0) (1 ∷ 4 ∷ others)) ≡ map (sector_number G 0) others
  first_free =
      let rest : List ℕ = map (sector_number G 0) others in
      filter_no is_free (sector_number G 0 1) (sector_number G 0 4 ∷ rest) first_taken
      ∙ filter_no is_free (sector_number G 0 4) rest fourth_taken
      ∙ filter_whole is_free others_free

pub blank_free_passes : (F : Format) → GoodFormat F → (T : ℕ) → 1 ≤ T → blank_free (tracked F T) ≡ drop 2 (passing (tracked F T))
unfolding blank_free passing
blank_free_passes F f zero h = absurd (omega arith)
blank_free_passes F f (suc T) h =
    let G : Geometry = tracked F (suc T) in
    let begins = order_begins f in
    let rest : List ℕ = joined (map (λ t. map (sector_number G t) F.order) (range 1 T)) in
    let free : ℕ → Bool = λ n. not (elem n (0 ∷ blank_directory G ∷ [])) in
    ap (λ (o : List ℕ). filter free (map (sector_number G 0) o ++ rest)) begins
    ∙ filter_join free (map (sector_number G 0) (1 ∷ 4 ∷ drop 2 F.order)) rest
    ∙ ap₂ (λ (xs ys : List ℕ). xs ++ ys) (first_free F f (suc T)) (filter_whole free (later_tracks F f (suc T) 1 T (omega arith)))
    ∙ ap (λ (o : List ℕ). drop 2 (map (sector_number G 0) o ++ rest)) (sym begins)
