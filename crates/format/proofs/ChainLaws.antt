-- Laws of chains: the cases of `met` and `ends`, chains as a relation, what keeps a chain, how two are joined, and what two of the same sectors share.
-- Assumes nothing.
use Rattle.std.specs.Prelude.{◌≡◌, ◌≢◌, true, false, length}
use Rattle.std.proofs.Math.Path.{refl, ap}
use Rattle.std.proofs.Common.{sym, ◌∙◌, subst, not-suc-le-zero, sub-one}
use Prim.Native.Nat.{ℕ, zero, suc, ◌+◌, ◌-◌, ◌≤◌, ◌<◌}
use native.Mathlib.Omega.{arith}
use Rattle.std.proofs.Math.Decide.{ℕ_discrete}
use Rattle.std.proofs.lemmas.Bool.{false≢true}
use mathlib.Core.List.{List, [], ◌∷◌, ◌++◌}
use Rattle.lists.specs.Lists.{times, last_or, byte}
use Rattle.lists.specs.ListLaws.{All, done, ◌also◌, times_none, times_here, times_past, last_in}
use Rattle.format.specs.Geometry.{Geometry, sectors, Next, stop, go, off, Disc, sector}
use Rattle.format.specs.GeometryLaws.{OnDisc}
use Rattle.format.proofs.GeometryLaws.{pointed_on, pointed_only, pointed_none}
use Rattle.format.specs.Layout.{link_offset, link_of, met, ends}
use Rattle.format.specs.ChainLaws.{Chain, SameLink, end, on}

module _ (G : Geometry) (d : Disc) where
  -- ---- the cases of a walk

  pub met_stop : (k : ℕ) → met G d k stop ≡ []
  unfolding met
  met_stop zero = refl
  met_stop (suc k) = refl

  pub met_off : (k : ℕ) → met G d k off ≡ []
  unfolding met
  met_off zero = refl
  met_off (suc k) = refl

  pub met_none : (p : Next) → met G d 0 p ≡ []
  unfolding met
  met_none p = refl

  pub met_go : (k n : ℕ) → 0 < k → met G d k (go n) ≡ n ∷ met G d (k - 1) (link_of G (sector d n))
  unfolding met
  met_go zero n h = absurd (not-suc-le-zero h)
  met_go (suc k) n h = ap (λ (j : ℕ). n ∷ met G d j (link_of G (sector d n))) (sym (sub-one (suc k)))

  pub ends_stop : (k : ℕ) → ends G d k stop ≡ true
  unfolding ends
  ends_stop zero = refl
  ends_stop (suc k) = refl

  pub ends_off : (k : ℕ) → ends G d k off ≡ false
  unfolding ends
  ends_off zero = refl
  ends_off (suc k) = refl

  pub ends_none : (n : ℕ) → ends G d 0 (go n) ≡ false
  unfolding ends
  ends_none n = refl

  pub met_few : (k : ℕ) (p : Next) → length (met G d k p) ≤ k
  unfolding met
  met_few zero p = omega arith
  met_few (suc k) stop = omega arith
  met_few (suc k) off = omega arith
  met_few (suc k) (go n) = omega (arith, met_few k (link_of G (sector d n)))

  pub met_below : (k : ℕ) (p : Next) → OnDisc G p → All (λ n. n < sectors G) (met G d k p)
  unfolding met OnDisc
  met_below zero p h = done
  met_below (suc k) stop h = done
  met_below (suc k) off h = done
  met_below (suc k) (go n) h = h n refl also met_below k (link_of G (sector d n)) (pointed_on G _ _)

-- ---- chains as a relation

module _ (G : Geometry) (d : Disc) where
  pub ends_chain : (k : ℕ) (p : Next) → ends G d k p ≡ true → Chain G d p (met G d k p)
  unfolding ends met
  ends_chain zero stop e = end refl
  ends_chain zero off e = absurd (false≢true e)
  ends_chain zero (go n) e = absurd (false≢true e)
  ends_chain (suc k) stop e = end refl
  ends_chain (suc k) off e = absurd (false≢true e)
  ends_chain (suc k) (go n) e = on refl (ends_chain k (link_of G (sector d n)) e)

  pub chain_met : (k : ℕ) {p : Next} {ns : List ℕ} → Chain G d p ns → length ns ≤ k → met G d k p ≡ ns
  unfolding met
  chain_met zero (end e) h = refl
  chain_met zero (on e c) h = absurd (omega arith)
  chain_met (suc k) (end e) h = ap (met G d (suc k)) e
  chain_met (suc k) (on {n = n} e c) h = ap (met G d (suc k)) e ∙ ap (λ (r : List ℕ). n ∷ r) (chain_met k c (omega arith))

  pub chain_has_end : (k : ℕ) {p : Next} {ns : List ℕ} → Chain G d p ns → length ns ≤ k → ends G d k p ≡ true
  unfolding ends
  chain_has_end zero (end e) h = ap (ends G d zero) e
  chain_has_end zero (on e c) h = absurd (omega arith)
  chain_has_end (suc k) (end e) h = ap (ends G d (suc k)) e
  chain_has_end (suc k) (on e c) h = ap (ends G d (suc k)) e ∙ chain_has_end k c (omega arith)

-- its last sector has the end link
pub chain_stops : {G : Geometry} {d : Disc} {p : Next} {ns : List ℕ} → Chain G d p ns → 0 < length ns → link_of G (sector d (last_or 0 ns)) ≡ stop
chain_stops (end e) h = absurd (omega arith)
chain_stops (on e (end q)) h = q
chain_stops (on e (on q c)) h = chain_stops (on q c) (omega arith)

-- ---- what keeps a chain: its sectors' links

module _ {G : Geometry} {d : Disc} (d' : Disc) where
  pub chain_frame : {p : Next} {ns : List ℕ} → Chain G d p ns → All (SameLink G d d') ns → Chain G d' p ns
  chain_frame (end e) hs = end e
  chain_frame (on {ns = ns} e c) (h also hs) = on e (subst (λ (q : Next). Chain G d' q ns) (sym h) (chain_frame c hs))

  -- the last sector of one chain is linked to the start of another
  pub chain_join : {p q : Next} {ns ms : List ℕ} → Chain G d p ns → 0 < length ns
      → ((n : ℕ) → 0 < times n ns → n ≢ last_or 0 ns → SameLink G d d' n) → times (last_or 0 ns) ns ≡ 1
      → link_of G (sector d' (last_or 0 ns)) ≡ q → Chain G d' q ms → Chain G d' p (ns ++ ms)
  chain_join (end e) h same once l c = absurd (omega arith)
  chain_join {ms = ms} (on e (end e')) h same once l c = on e (subst (λ (q : Next). Chain G d' q ms) (sym l) c)
  chain_join {ms = ms} (on {n = n} e (on {n = m} {ns = ns} e' c')) h same once l c =
      let last : ℕ = last_or m ns in
      let apart : n ≢ last = λ q. omega (arith, times_here last n (m ∷ ns) (sym q), last_in m ns) in
      on e (subst (λ (q : Next). Chain G d' q (m ∷ ns ++ ms)) (sym (same n (omega (arith, times_here n n (m ∷ ns) refl)) apart))
      (chain_join (on e' c') (omega arith)
      (λ k i j. same k (elim (ℕ_discrete k n) [ yes w ↦ omega (arith, times_here k n (m ∷ ns) w) | no w ↦ omega (arith, times_past k n (m ∷ ns) w) ]) j)
      (omega (arith, times_past last n (m ∷ ns) (λ w. apart (sym w)))) l c))

-- ---- the same sectors chained on two discs: their links have the same bytes, but for the track byte of the last

pub chains_alike : {G : Geometry} {d d' : Disc} {p p' : Next} {ns : List ℕ} → 0 < G.per_track → Chain G d p ns → Chain G d' p' ns → (n : ℕ) → 0 < times n ns
    → (byte (sector d' n) (link_offset + 1) ≡ byte (sector d n) (link_offset + 1))
    × (n ≢ last_or 0 ns → byte (sector d' n) link_offset ≡ byte (sector d n) link_offset)
chains_alike h (end e) (end e') n i = absurd (omega (arith, times_none n))
chains_alike {G} {d} {d'} h (on {n = m} e (end q)) (on e' (end q')) n i =
    let n-is : n ≡ m = elim (ℕ_discrete n m) [ yes w ↦ w | no w ↦ absurd (omega (arith, times_past n m [] w, times_none n)) ] in
    rw n-is (pointed_none G _ _ q' ∙ sym (pointed_none G _ _ q), λ ne. absurd (ne refl))
chains_alike {G} h (on {n = m} e (on {n = k} {ns = ns} q c)) (on e' (on q' c')) n i =
    elim (ℕ_discrete n m) [
      | yes w ↦
          let was = pointed_only G h _ _ k q in
          let now = pointed_only G h _ _ k q' in
          rw w (now.1 ∙ sym was.1, λ ne. now.0 ∙ sym was.0)
      | no w ↦ chains_alike h (on q c) (on q' c') n (omega (arith, times_past n m (k ∷ ns) w))
    ]
