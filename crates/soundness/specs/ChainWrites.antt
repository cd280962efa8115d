-- Sectors written as a chain with given bodies: they are that chain, hold those bodies, and the other sectors stay.
-- Assumes nothing.
use Rattle.std.specs.Prelude.{◌≡◌, ◌≢◌, length, get_or, take, drop}
use Rattle.std.proofs.Math.Path.{refl, ap, ap₂}
use Rattle.std.proofs.Common.{sym, ◌∙◌, subst, arith}
use Prim.Native.Nat.{ℕ, ◌≤◌, ◌<◌}
use Rattle.std.proofs.Math.Decide.{ℕ_discrete}
use mathlib.Core.List.{List, [], ◌∷◌, map, ◌++◌}
use Rattle.std.proofs.Math.ListN.{set, length-set}
use Rattle.std.proofs.lemmas.List.{length-map}
use Rattle.lists.specs.Lists.{times, last_or}
use Rattle.lists.specs.ListLaws.{All, done, ◌also◌, head_of_all, tail_of, all_map, times_none, times_here, times_past}
use Rattle.format.specs.Geometry.{Geometry, sectors, Next, stop, go, Disc, sector, Write, written}
use Rattle.format.specs.GeometryLaws.{Full}
use Rattle.format.proofs.GeometryLaws.{sector_other, sector_same, full_set}
use Rattle.format.specs.Layout.{link_bytes, link_of}
use Rattle.format.specs.ChainLaws.{Chain, end, on}
use Rattle.format.specs.Effects.{body, head_of, chained}
use Rattle.soundness.specs.Pointers.{Bounded, head_pointable, made_link}

pub written_join : (ws vs : List Write) (d : Disc) → written (ws ++ vs) d ≡ written vs (written ws d)
written_join [] vs d = refl
written_join (w ∷ ws) vs d = written_join ws vs (set d w.at w.bytes)

module _ (G : Geometry) where
  pub chained_full : (ns : List ℕ) {bs : List (List ℕ)} {d : Disc} → All (λ n. n < sectors G) ns → All (λ b. length b ≡ 254) bs → Full G d
      → Full G (written (chained G ns bs) d)
  unfolding chained
  chained_full [] b h z = z
  chained_full (n ∷ ns) below done z = z
  chained_full (n ∷ ns) below (◌also◌ {x = b} h hs) z =
      chained_full ns (tail_of below) hs (full_set z n (link_bytes G (head_of ns) ++ b) (omega arith))

  -- a sector that isn't one of them stays
  pub chained_other : (ns : List ℕ) (bs : List (List ℕ)) (d : Disc) (n : ℕ) → times n ns ≡ 0 → sector (written (chained G ns bs) d) n ≡ sector d n
  unfolding chained
  chained_other [] bs d n h = refl
  chained_other (m ∷ ns) [] d n h = refl
  chained_other (m ∷ ns) (b ∷ bs) d n h =
      let ne : n ≢ m = λ e. omega (arith, times_here n m ns e) in
      chained_other ns bs (set d m (link_bytes G (head_of ns) ++ b)) n (omega (arith, times_past n m ns ne)) ∙ sector_other d m n _ ne

  pub chained_chain : Bounded G → (ns : List ℕ) (bs : List (List ℕ)) (d : Disc) → length ns ≡ length bs → All (λ n. n < sectors G) ns → length d ≡ sectors G
      → ((n : ℕ) → times n ns ≤ 1)
      → Chain G (written (chained G ns bs) d) (head_of ns) ns × (map (λ n. body (sector (written (chained G ns bs) d) n)) ns ≡ bs)
  unfolding chained
  chained_chain u [] [] d e below many once = (end refl, refl)
  chained_chain u [] (b ∷ bs) d e below many once = absurd (omega arith)
  chained_chain u (n ∷ ns) [] d e below many once = absurd (omega arith)
  chained_chain u (n ∷ ns) (b ∷ bs) d e below many once =
      let w : List ℕ = link_bytes G (head_of ns) ++ b in
      let d₁ : Disc = set d n w in
      let rest = chained_chain u ns bs d₁ (omega arith) (tail_of below) (length-set d n w ∙ many)
      (λ k. elim (ℕ_discrete k n) [ yes q ↦ omega (arith, once k, times_here k n ns q) | no q ↦ omega (arith, once k, times_past k n ns q) ]) in
      let here : sector (written (chained G ns bs) d₁) n ≡ w =
      chained_other ns bs d₁ n (omega (arith, once n, times_here n n ns refl)) ∙ sector_same d n w (omega (arith, many, head_of_all below)) in
      let lead = head_pointable (tail_of below) in (
        on refl (subst (λ (q : Next). Chain G (written (chained G ns bs) d₁) q ns) (sym (ap (link_of G) here ∙ made_link G u lead b)) rest.0),
        ap₂ (λ (a : List ℕ) (r : List (List ℕ)). a ∷ r) (ap body here) rest.1,
      )

  -- each of them holds the body that is written
  pub chained_bodies : Bounded G → (f : ℕ → List ℕ) (ns : List ℕ) (d : Disc) → All (λ n. n < sectors G) ns → length d ≡ sectors G → ((n : ℕ) → times n ns ≤ 1)
      → (n : ℕ) → 0 < times n ns → body (sector (written (chained G ns (map f ns)) d) n) ≡ f n
  chained_bodies u f ns d below many once n h =
      same_at (λ m. body (sector (written (chained G ns (map f ns)) d) m)) ns (chained_chain u ns (map f ns) d (sym (length-map ns f)) below many once).1 h
    where
      same_at : (g : ℕ → List ℕ) (xs : List ℕ) → map g xs ≡ map f xs → 0 < times n xs → g n ≡ f n
      same_at g [] e h = absurd (omega (arith, times_none n))
      same_at g (x ∷ xs) e h =
          elim (ℕ_discrete n x) [
            | yes q ↦ ap g q ∙ ap (λ (r : List (List ℕ)). get_or r 0 []) e ∙ ap f (sym q)
            | no q ↦ same_at g xs (ap (drop 1) e) (omega (arith, times_past n x xs q))
          ]

  -- the last of them has a link of zeros
  pub chained_ends : (ns : List ℕ) (bs : List (List ℕ)) (d : Disc) → length ns ≡ length bs → All (λ n. n < length d) ns → 0 < length ns
      → take 2 (sector (written (chained G ns bs) d) (last_or 0 ns)) ≡ 0 ∷ 0 ∷ []
  unfolding chained
  chained_ends [] bs d e below h = absurd (omega arith)
  chained_ends (n ∷ ns) [] d e below h = absurd (omega arith)
  chained_ends (n ∷ []) (b ∷ []) d e below h = ap (take 2) (sector_same d n (link_bytes G stop ++ b) (head_of_all below))
  chained_ends (n ∷ []) (b ∷ c ∷ bs) d e below h = absurd (omega arith)
  chained_ends (n ∷ m ∷ ns) (b ∷ bs) d e below h =
      let w : List ℕ = link_bytes G (go m) ++ b in
      chained_ends (m ∷ ns) bs (set d n w) (omega arith) (all_map (λ i k. omega (arith, length-set d n w)) (tail_of below)) (omega arith)
