-- The links of a blank disc's free chain, one after the other, as the loop that writes them meets them.
-- Assumes nothing.
use Rattle.std.specs.Prelude.{◌≡◌, refl, Bool, not, set, replicate}
use Rattle.std.proofs.Common.{sym, ◌∙◌, add-one, drop_of_length-le}
use Rattle.std.proofs.Math.Path.{ap, ap₂, subst}
use Prim.Native.Nat.{ℕ, zero, suc, ◌+◌, ◌*◌, ◌%◌, ◌-◌, ◌≤◌, ◌<◌}
use native.Mathlib.Omega.{arith}
use Rattle.std.proofs.Math.Bool.{true}
use Rattle.std.proofs.lemmas.Bool.{false≢true}
use mathlib.Core.List.{List, [], ◌∷◌, ◌++◌}
use Rattle.std.proofs.Math.ListN.{length, get_or, drop, length-drop}
use Rattle.std.proofs.Math.Seq.{drop-cons, get_or-drop}
use Rattle.lists.specs.Lists.{elem}
use Rattle.lists.specs.ListLaws.{All, all_get_d, filter_all}
use Rattle.format.specs.Geometry.{Disc, sector, sectors, sector_number, on_disc, Write, written}
use Rattle.format.proofs.GeometryLaws.{length_cut, is_on_disc}
use Rattle.format.specs.Layout.{link_bytes}
use Rattle.format.specs.Effects.{body, head_of, chained, passing, blank_directory, blank_free}
use Rattle.geometry.specs.Meaning.{form, geo, sectors_of, Valid}
use Rattle.geometry.specs.Laws.{good}
use Rattle.geometry.specs.declared.Geometry.{Geometry}
use Rattle.disc.specs.declared.Address.{Address}
use Rattle.passing.specs.Meaning.{Stop, Passed}
use Rattle.passing.specs.Positions.{passing_as_long, position_high, track_inside, stop_number}
use Rattle.blank.specs.Meaning.{Bare}
use Rattle.blank.specs.Zeros.{bare_set}
use Rattle.blank.specs.Free.{blank_free_passes}

-- the write of the link of the sector at position k, to the one at `next`
abbrev pub link_at : Geometry → ℕ → ℕ → Write
link_at g k next = record { at = get_or (passing (geo g)) k 0; bytes = link_bytes (geo g) (head_of (drop next (passing (geo g)))) ++ replicate 254 0 }

-- the writes of the chain from position k on
unfoldable pub links_from : Geometry → ℕ → List Write
links_from g k = chained (geo g) (drop k (passing (geo g))) (replicate (g.sectors - k) (replicate 254 0))

module _ {g : Geometry} (v : Valid g) where
  -- 0/4, the directory, is on the disc
  pub directory_on : on_disc (geo g) 0 4 ≡ true
  directory_on = is_on_disc (geo g) 0 4 v.some_track (omega arith) (omega (arith, v.nine_on_track))

  -- ---- the writes from position k on

  pub links_step : (k : ℕ) → k < g.sectors → links_from g k ≡ link_at g k (k + 1) ∷ links_from g (k + 1)
  unfolding links_from chained
  links_step k h =
      let left : g.sectors - k ≡ suc (g.sectors - (k + 1)) = omega arith in
      let here = drop-cons (passing (geo g)) k 0 (omega (arith, passing_as_long v)) in
      let next = here ∙ ap (λ (j : ℕ). get_or (passing (geo g)) k 0 ∷ drop j (passing (geo g))) (sym (add-one k)) in
      ap₂ (λ (ns : List ℕ) (n : ℕ). chained (geo g) ns (replicate n (replicate 254 0))) next left

  pub links_end : (k : ℕ) → g.sectors ≤ k → links_from g k ≡ []
  unfolding links_from chained
  links_end k h =
      let past : length (passing (geo g)) ≤ k = omega (arith, passing_as_long v) in
      ap (λ (ns : List ℕ). chained (geo g) ns (replicate (g.sectors - k) (replicate 254 0))) (drop_of_length-le (passing (geo g)) past)

  pub free_is : blank_free (geo g) ≡ drop 2 (passing (geo g))
  free_is = blank_free_passes (form g) (good v) g.tracks v.some_track

  pub links_whole : links_from g 2 ≡ chained (geo g) (blank_free (geo g)) (replicate (sectors (geo g) - 2) (replicate 254 0))
  unfolding links_from
  links_whole =
      ap₂ (λ (ns : List ℕ) (n : ℕ). chained (geo g) ns (replicate (n - 2) (replicate 254 0))) (sym free_is) v.total

  abbrev is_free : ℕ → Bool
  is_free n = not (elem n (0 ∷ blank_directory (geo g) ∷ []))

  -- the sectors after the first two positions are not 0/1
  pub position_low : (k : ℕ) → 2 ≤ k → k < g.sectors → 0 < get_or (passing (geo g)) k 0
  unfolding blank_free
  position_low k low high =
      let j : ℕ = k - 2 in
      let e : 2 + j ≡ k = omega arith in
      let long : length (drop 2 (passing (geo g))) ≡ g.sectors - 2 = length-drop 2 (passing (geo g)) ∙ ap (λ (n : ℕ). n - 2) (passing_as_long v) in
      let all = subst (All (λ n. is_free n ≡ true)) free_is (filter_all is_free (passing (geo g))) in
      let kept = all_get_d {P = λ n. is_free n ≡ true} j 0 all (omega (arith, long)) in
      let is = get_or-drop 2 (passing (geo g)) j 0 ∙ ap (λ (n : ℕ). get_or (passing (geo g)) n 0) e in
      not_system (get_or (passing (geo g)) k 0) (subst (λ (n : ℕ). is_free n ≡ true) is kept)
    where
      not_system : (n : ℕ) → is_free n ≡ true → 0 < n
      not_system zero h = absurd (false≢true h)
      not_system (suc n) h = omega arith

-- the links of positions k to m are written: those from m on, written now, give what those from k on gave before
pub record Linked (g : Geometry) (k m : ℕ) (before after : List ℕ) : Type 0 where
  pub bare : Bare (sectors_of g after)
  pub links : written (links_from g m) (sectors_of g after) ≡ written (links_from g k) (sectors_of g before)

pub linked_none : (g : Geometry) (k : ℕ) (x : List ℕ) → Bare (sectors_of g x) → Linked g k k x x
linked_none g k x z = record { bare = z; links = refl }

pub linked_more : {g : Geometry} {k m n : ℕ} {x y z : List ℕ} → Linked g k m x y → Linked g m n y z → Linked g k n x z
linked_more a b = record { bare = b.bare; links = b.links ∙ a.links }

-- the link of the sector at position i of a track, which the code has as a stop
module _ {g : Geometry} (v : Valid g) (track i : ℕ) (on : track < g.tracks) (h : i < (geo g).per_track)
    (stop : ℕ) (is : Stop g (get_or (geo g).order i 0) stop) where
  abbrev k : ℕ
  k = (geo g).per_track * track + i

  pub here_bare : 2 ≤ k → (x : List ℕ) → Bare (sectors_of g x) → body (sector (sectors_of g x) (sector_number (geo g) track (stop % 256))) ≡ replicate 254 0
  here_bare low x z =
      let inside = track_inside v track i on h in
      z.zeros _ (omega (arith, stop_number v track i on h stop is, position_low v k low inside))
      (omega (arith, stop_number v track i on h stop is, position_high v k inside, length_cut (form g) (geo g) x, v.total))

  pub linked_here : (m : ℕ) → m ≡ k + 1 → (r : Address) → Passed g m r → (x y : List ℕ) → Bare (sectors_of g x)
      → sectors_of g y ≡ set (sectors_of g x) (sector_number (geo g) track (stop % 256)) (r.track ∷ r.sector ∷ replicate 254 0) → Linked g k m x y
  linked_here m next r p x y z e =
      let d : Disc = sectors_of g x in
      let stored : ℕ → ℕ → ℕ → Disc = λ n t b. set d n (t ∷ b ∷ replicate 254 0) in
      let as_passed = e ∙ ap (λ (n : ℕ). stored n r.track r.sector) (stop_number v track i on h stop is)
      ∙ ap₂ (stored (get_or (passing (geo g)) k 0)) p.track_is p.sector_is in
      let step = links_step v k (track_inside v track i on h) ∙ ap (λ (j : ℕ). link_at g k j ∷ links_from g j) (sym next) in
      record {
        bare = subst Bare (sym e) (bare_set d _ _ _ z);
        links = ap (written (links_from g m)) as_passed ∙ ap (λ (ws : List Write). written ws d) (sym step);
      }
