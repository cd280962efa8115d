-- Sectors taken from the head of a chain and written one after the other, where the link of each is read before it is written.
-- Assumes nothing.
use Rattle.std.specs.Prelude.{◌≡◌, ◌≢◌, Bool, cond, ltb, get_or, set}
use Rattle.std.proofs.Math.Path.{refl, sym, ap}
use Rattle.std.proofs.Common.{ap₂, ◌∙◌, arith, lt_of_not-le, add-one, drop-cons, get_or-take, take-take, lt-ltb, le-ltb}
use Prim.Native.Nat.{ℕ, zero, suc, ◌+◌, ◌≤◌, ◌<◌}
use Rattle.std.proofs.Math.Decide.{dec_le}
use mathlib.Core.List.{List, [], ◌∷◌, ◌++◌}
use Rattle.std.proofs.Math.ListN.{length, take, drop, drop_of_length-le}
use Rattle.std.proofs.Math.Seq.{take_all, length-take-le}
use Rattle.lists.specs.Lists.{times, last_or}
use Rattle.lists.specs.ListLaws.{times_split, times_here, times_past}
use Rattle.format.specs.Geometry.{Geometry, Next, stop, go, off, Disc, sector, written}
use Rattle.format.proofs.GeometryLaws.{sector_other}
use Rattle.format.specs.Layout.{link_of, link_bytes, met, free_pointer, free}
use Rattle.format.specs.Effects.{head_of, chained}
use Rattle.soundness.specs.WriteFacts.{Savable}

-- ---- parts of lists

pub last_taken : (z : ℕ) (xs : List ℕ) (j : ℕ) → j < length xs → last_or z (take (suc j) xs) ≡ get_or xs j 0
last_taken z [] j h = absurd (omega arith)
last_taken z (x ∷ xs) zero h = refl
last_taken z (x ∷ xs) (suc j) h = last_taken x xs j (omega arith)

-- ---- where a walk leads

module _ (G : Geometry) (d : Disc) where
  -- from p, after it has met ns
  abbrev pub after : Next → List ℕ → Next
  after p [] = p
  after p (n ∷ ns) = after (link_of G (sector d n)) ns

  after_met : (k : ℕ) (p : Next) (j : ℕ) → j < length (met G d k p) → after p (take j (met G d k p)) ≡ go (get_or (met G d k p) j 0)
  unfolding met
  after_met zero p j h = absurd (omega arith)
  after_met (suc k) stop j h = absurd (omega arith)
  after_met (suc k) off j h = absurd (omega arith)
  after_met (suc k) (go n) zero h = refl
  after_met (suc k) (go n) (suc j) h = after_met k (link_of G (sector d n)) j (omega arith)

  after_one : (p : Next) (ns : List ℕ) (j : ℕ) → j < length ns → after p (take (suc j) ns) ≡ link_of G (sector d (get_or ns j 0))
  after_one p [] j h = absurd (omega arith)
  after_one p (n ∷ ns) zero h = refl
  after_one p (n ∷ ns) (suc j) h = after_one (link_of G (sector d n)) ns j (omega arith)

  after_all : (p : Next) (ns : List ℕ) → 0 < length ns → after p ns ≡ link_of G (sector d (last_or 0 ns))
  after_all p [] h = absurd (omega arith)
  after_all p (n ∷ []) h = refl
  after_all p (n ∷ m ∷ ns) h = after_all (link_of G (sector d n)) (m ∷ ns) (omega arith)

-- ---- the sectors to be taken

-- a walk from p meets ns in order, and none of them twice
pub record Linked (G : Geometry) (d : Disc) (p : Next) (ns : List ℕ) : Type 0 where
  pub leads : (j : ℕ) → j < length ns → after G d p (take j ns) ≡ go (get_or ns j 0)
  pub once : (n : ℕ) → times n ns ≤ 1

pub linked_head : {G : Geometry} {d : Disc} {p : Next} (ns : List ℕ) → Linked G d p ns → 0 < length ns → head_of ns ≡ p
linked_head [] l h = absurd (omega arith)
linked_head (n ∷ ns) l h = sym (l.leads 0 h)

module _ (G : Geometry) (d : Disc) (k : ℕ) (enough : k ≤ length (free G d)) where
  -- the first k of the free chain
  pub free_linked : Savable G d → Linked G d (free_pointer G d) (take k (free G d))
  unfolding free
  free_linked S =
      let long : length (take k (free G d)) ≡ k = length-take-le k (free G d) enough in
      record {
        leads =
            λ j h.
            ap (after G d (free_pointer G d)) (take-take j k (free G d) (omega arith))
            ∙ after_met G d _ (free_pointer G d) j (omega arith)
            ∙ ap go (sym (get_or-take k (free G d) j 0 (omega arith)));
        once = λ n. omega (arith, S.free_once n, times_split n k (free G d));
      }

  -- the link of the last of them leads to the next
  pub free_next : 0 < k → k < length (free G d) → link_of G (sector d (last_or 0 (take k (free G d)))) ≡ go (get_or (free G d) k 0)
  unfolding free
  free_next some_sector more =
      let long : length (take k (free G d)) ≡ k = length-take-le k (free G d) enough in
      sym (after_all G d (free_pointer G d) (take k (free G d)) (omega arith)) ∙ after_met G d _ (free_pointer G d) k more

-- ---- the walk that writes

-- The first j of the sectors ns are written with the bodies bs, and d is the disc: where the walk leads, the last sector that was written, the
-- sectors ahead as they were, and that writing the rest writes all.
pub record Taking (G : Geometry) (d₀ : Disc) (p : Next) (ns : List ℕ) (bs : List (List ℕ)) (j : ℕ) (at : Next) (last : ℕ) (d : Disc) : Type 0 where
  pub leads : at ≡ after G d₀ p (take j ns)
  pub last_is : last ≡ last_or 0 (take j ns)
  pub ahead : (n : ℕ) → 0 < times n (drop j ns) → sector d n ≡ sector d₀ n
  pub rest : written (chained G (drop j ns) (drop j bs)) d ≡ written (chained G ns bs) d₀

module _ (G : Geometry) (d₀ : Disc) (p : Next) (ns : List ℕ) (bs : List (List ℕ)) where
  pub taking_start : (at : Next) → at ≡ p → Taking G d₀ p ns bs 0 at 0 d₀
  taking_start at e = record { leads = e; last_is = refl; ahead = λ n h. refl; rest = refl }

  module _ (l : Linked G d₀ p ns) {j : ℕ} {at : Next} {last : ℕ} {d : Disc} (t : Taking G d₀ p ns bs j at last d) where
    pub taking_to : j < length ns → at ≡ go (get_or ns j 0)
    taking_to h = t.leads ∙ l.leads j h

    -- the link that is written: to the next sector, or the end
    head_next : (q : Next) → q ≡ after G d₀ p (take (j + 1) ns) → head_of (drop (j + 1) ns) ≡ cond (ltb (j + 1) (length ns)) q stop
    head_next q e = elim (dec_le (length ns) (j + 1)) [ yes h ↦ over h | no h ↦ more (lt_of_not-le h) ]
      where
        over : length ns ≤ j + 1 → head_of (drop (j + 1) ns) ≡ cond (ltb (j + 1) (length ns)) q stop
        over h = ap head_of (drop_of_length-le ns h) ∙ sym (ap (λ (b : Bool). cond b q stop) (le-ltb (j + 1) (length ns) h))

        more : j + 1 < length ns → head_of (drop (j + 1) ns) ≡ cond (ltb (j + 1) (length ns)) q stop
        more h =
            ap head_of (drop-cons ns (j + 1) 0 h)
            ∙ sym (l.leads (j + 1) h)
            ∙ sym e
            ∙ sym (ap (λ (b : Bool). cond b q stop) (lt-ltb (j + 1) (length ns) h))

    chained_cons : (n : ℕ) (ms : List ℕ) (b : List ℕ) (cs : List (List ℕ))
        → written (chained G (n ∷ ms) (b ∷ cs)) d ≡ written (chained G ms cs) (set d n (link_bytes G (head_of ms) ++ b))
    unfolding chained
    chained_cons n ms b cs = refl

    pub taking_step : length bs ≡ length ns → j < length ns → (n : ℕ) → at ≡ go n → (next : Next) → next ≡ link_of G (sector d n)
        → (d' : Disc) → d' ≡ set d n (link_bytes G (cond (ltb (j + 1) (length ns)) next stop) ++ get_or bs j [])
        → Taking G d₀ p ns bs (j + 1) next n d'
    taking_step many h n to next link d' put =
        let same : go n ≡ go (get_or ns j 0) = sym to ∙ taking_to h in
        let n-is : n ≡ get_or ns j 0 = cc in
        let here : drop j ns ≡ n ∷ drop (j + 1) ns = drop-cons ns j 0 h ∙ ap₂ (λ (x i : ℕ). x ∷ drop i ns) (sym n-is) (sym (add-one j)) in
        let body : drop j bs ≡ get_or bs j [] ∷ drop (j + 1) bs = drop-cons bs j [] (omega arith) ∙ ap (λ (i : ℕ). get_or bs j [] ∷ drop i bs) (sym (add-one j)) in
        let split : (i : ℕ) → times i (drop j ns) ≡ times i (n ∷ drop (j + 1) ns) = λ i. ap (times i) here in
        let onward : next ≡ after G d₀ p (take (j + 1) ns) =
        link
        ∙ ap (link_of G) (t.ahead n (omega (arith, split n, times_here n n (drop (j + 1) ns) refl)))
        ∙ ap (λ (i : ℕ). link_of G (sector d₀ i)) n-is
        ∙ sym (after_one G d₀ p ns j h)
        ∙ ap (λ (i : ℕ). after G d₀ p (take i ns)) (sym (add-one j)) in
        record {
          leads = onward;
          last_is = n-is ∙ sym (last_taken 0 ns j h) ∙ ap (λ (i : ℕ). last_or 0 (take i ns)) (sym (add-one j));
          ahead =
              λ i later.
              let apart : i ≢ n = λ e. omega (arith, l.once i, times_split i j ns, split i, times_here i n (drop (j + 1) ns) e) in
              ap (λ (x : Disc). sector x i) put
              ∙ sector_other d n i _ apart
              ∙ t.ahead i (omega (arith, split i, times_past i n (drop (j + 1) ns) apart));
          rest =
              ap (written (chained G (drop (j + 1) ns) (drop (j + 1) bs))) (rw (← head_next next onward) at put)
              ∙ sym (chained_cons n (drop (j + 1) ns) (get_or bs j []) (drop (j + 1) bs))
              ∙ sym (ap₂ (λ (a : List ℕ) (b : List (List ℕ)). written (chained G a b) d) here body)
              ∙ t.rest;
        }

    pub taking_end : length ns ≤ j → 0 < length ns
        → (d ≡ written (chained G ns bs) d₀) × (last ≡ last_or 0 ns) × (at ≡ link_of G (sector d₀ (last_or 0 ns)))
    unfolding chained
    taking_end over some_sector =
        let none : drop j ns ≡ [] = drop_of_length-le ns over in
        let all : take j ns ≡ ns = take_all j ns over in (
          sym (ap (λ (x : List ℕ). written (chained G x (drop j bs)) d) none) ∙ t.rest,
          t.last_is ∙ ap (last_or 0) all,
          t.leads ∙ ap (after G d₀ p) all ∙ after_all G d₀ p ns some_sector,
        )
