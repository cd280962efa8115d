-- Links and pairs written and read back.
-- Assumes nothing.
use Rattle.std.specs.Prelude.{◌≡◌, refl, ℕ, ◌+◌, ◌≤◌, ◌<◌, List, ◌++◌, length}
use Rattle.std.proofs.Common.{sym, ap, ap₂, ◌∙◌, subst, arith, add-zero}
use Rattle.std.proofs.lemmas.List.Edits.{sets}
use Rattle.lists.specs.Lists.{byte}
use Rattle.lists.specs.ListLaws.{All, done, ◌also◌}
use Rattle.lists.specs.Stores.{get_d_sets_in}
use Rattle.format.specs.Geometry.{Geometry, sectors, Next, stop, go, pointed, Disc}
use Rattle.format.specs.GeometryLaws.{OnDisc}
use Rattle.format.proofs.GeometryLaws.{pointed_stop, pointed_back}
use Rattle.format.specs.Layout.{link_offset, link_at, pair_at, link_bytes, pair_bytes, link_of}
use Rattle.format.specs.ChainLaws.{Chain, end, on}
use Rattle.format.specs.Effects.{with_link, head_of}

-- a disc with a sector on each track, whose sectors sixteen bits can count
pub record Bounded (G : Geometry) : Type 0 where
  pub some_sector : 0 < G.per_track
  pub few : sectors G < 65536

-- what two bytes can be made to lead to: nothing, or a sector of the disc
pub data Pointable (G : Geometry) : Next → Type 0 where
  to_none : Pointable G stop
  to_sector : (n : ℕ) → n < sectors G → Pointable G (go n)

-- what a chain begins with is one
pub chain_pointable : {G : Geometry} {d : Disc} {p : Next} {ns : List ℕ} → Chain G d p ns → OnDisc G p → Pointable G p
unfolding OnDisc
chain_pointable {G} (end e) h = subst (Pointable G) (sym e) to_none
chain_pointable {G} (on {n = n} e c) h = subst (Pointable G) (sym e) (to_sector n (h n e))

pub head_pointable : {G : Geometry} {ns : List ℕ} → All (λ n. n < sectors G) ns → Pointable G (head_of ns)
head_pointable done = to_none
head_pointable (◌also◌ {x = n} h hs) = to_sector n h

module _ (G : Geometry) (u : Bounded G) where
  pub pair_back : {p : Next} → Pointable G p → pair_at G (pair_bytes G p) 0 ≡ p
  pair_back to_none = pointed_stop G 0 0 refl
  pair_back (to_sector n h) = pointed_back G u.some_sector n h

  link_back : {p : Next} → Pointable G p → link_at G (link_bytes G p) 0 ≡ p
  link_back to_none = pointed_stop G 0 0 refl
  link_back (to_sector n h) = pointed_back G u.some_sector n h

  -- a pair stored at an offset
  pub pair_stored : (sec : List ℕ) (k : ℕ) {p : Next} → Pointable G p → k + 2 ≤ length sec → pair_at G (sets sec k (pair_bytes G p)) k ≡ p
  pair_stored sec k {p} l h =
      ap₂ (λ (a b : ℕ). pointed G a b)
      (get_d_sets_in (pair_bytes G p) sec k 1 0 (omega arith) (omega arith))
      (ap (λ (j : ℕ). byte (sets sec k (pair_bytes G p)) j) (sym (add-zero k)) ∙ get_d_sets_in (pair_bytes G p) sec k 0 0 (omega arith) (omega arith))
      ∙ pair_back l

  -- a sector's link, stored
  pub link_stored : (sec : List ℕ) {p : Next} → Pointable G p → 2 ≤ length sec → link_of G (with_link sec (link_bytes G p)) ≡ p
  link_stored sec {p} l h =
      ap₂ (λ (a b : ℕ). pointed G a b)
      (get_d_sets_in (link_bytes G p) sec link_offset 0 0 (omega arith) (omega arith))
      (get_d_sets_in (link_bytes G p) sec link_offset 1 0 (omega arith) (omega arith))
      ∙ link_back l

  -- a sector made of a link and its other bytes
  pub made_link : {p : Next} → Pointable G p → (b : List ℕ) → link_of G (link_bytes G p ++ b) ≡ p
  made_link l b = link_back l
