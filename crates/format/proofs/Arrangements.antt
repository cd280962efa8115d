-- Laws of arrangements: sectors and places there and back, and the sectors of a disc in another order.
-- They hold for every arrangement that has each sector of a track once.
-- Assumes nothing.
use Rattle.std.specs.Prelude.{◌≡◌, ℕ, zero, suc, ◌+◌, ◌-◌, ◌≤◌, ◌<◌, length, set}
use Rattle.std.proofs.Common.{sym, ap, ◌∙◌, arith, length-set, get_or-set_other, get_or-set_same, ext_get_or}
use Rattle.std.proofs.Math.Decide.{ℕ_discrete}
use mathlib.Core.List.{List, []}
use Rattle.std.proofs.lemmas.List.{length-map}
use Rattle.lists.specs.Lists.{all, range, times}
use Rattle.lists.specs.ListLaws.{All, range_all, all_mapped, all_get_d, once_length}
use Rattle.lists.specs.Indices.{range_long, mapped_range}
use Rattle.format.specs.Geometry.{Format, Geometry, Disc, sector, reordered}
use Rattle.format.specs.Arrangements.{Arranged}

-- ---- the arrangement of a track

module _ (F : Format) (G : Geometry) (a : Arranged F G) where
  pub arrangement_long : length F.arrangement ≡ G.per_track
  arrangement_long = once_length G.per_track F.arrangement a

  pub arranged_once : (n : ℕ) → times n F.arrangement ≤ 1
  arranged_once zero = omega (arith, a.zeroth)
  arranged_once (suc n) = elim (ℕ_discrete (n - G.per_track + (suc n - G.per_track)) 0) [
    | yes e ↦ omega (arith, a.inside (suc n) (omega arith) (omega arith))
    | no e ↦ omega (arith, a.outside (suc n) (omega arith))
  ]

-- ---- a disc's sectors in another order

pub reordered_long : (f : ℕ → ℕ) (N : ℕ) (d : Disc) → length (reordered f N d) ≡ N
unfolding reordered
reordered_long f N d = length-map (range 0 N) (λ n. sector d (f n)) ∙ range_long 0 N

pub reordered_at : (f : ℕ → ℕ) (N : ℕ) (d : Disc) (n : ℕ) → n < N → sector (reordered f N d) n ≡ sector d (f n)
unfolding reordered
reordered_at f N d n h = let e : 0 + n ≡ n = omega arith in mapped_range (λ n. sector d (f n)) [] 0 N n h ∙ ap (λ (m : ℕ). sector d (f m)) e

module _ (f : ℕ → ℕ) (N : ℕ) (below : (n : ℕ) → n < N → f n < N) where
  pub reordered_each : {P : List ℕ → Type 0} (d : Disc) → length d ≡ N → All P d → All P (reordered f N d)
  unfolding reordered
  reordered_each d h all = all_mapped (λ n. sector d (f n)) (range_all 0 N (λ n l m. all_get_d (f n) [] all (omega (arith, below n (omega arith)))))

  -- in one order, then in the other
  pub reordered_back : (g : ℕ → ℕ) (d : Disc) → length d ≡ N → ((n : ℕ) → n < N → g (f n) ≡ n) → reordered f N (reordered g N d) ≡ d
  reordered_back g d h back = ext_get_or [] (reordered f N (reordered g N d)) d (reordered_long f N (reordered g N d) ∙ sym h) same
    where
      same : (n : ℕ) → n < length (reordered f N (reordered g N d)) → sector (reordered f N (reordered g N d)) n ≡ sector d n
      same n l =
          let on : n < N = omega (arith, reordered_long f N (reordered g N d)) in
          reordered_at f N (reordered g N d) n on ∙ reordered_at g N d (f n) (below n on) ∙ ap (sector d) (back n on)

  -- a sector that is stored, where no other stands at its place
  pub reordered_set : (d : Disc) (n : ℕ) (s : List ℕ) → length d ≡ N → n < N → ((m : ℕ) → m < N → f m ≡ f n → m ≡ n)
      → reordered f N (set d (f n) s) ≡ set (reordered f N d) n s
  reordered_set d n s h on alone =
      ext_get_or [] (reordered f N (set d (f n) s)) (set (reordered f N d) n s)
      (reordered_long f N (set d (f n) s) ∙ sym (length-set (reordered f N d) n s ∙ reordered_long f N d)) same
    where
      same : (m : ℕ) → m < length (reordered f N (set d (f n) s)) → sector (reordered f N (set d (f n) s)) m ≡ sector (set (reordered f N d) n s) m
      same m l =
          let at : m < N = omega (arith, reordered_long f N (set d (f n) s)) in
          reordered_at f N (set d (f n) s) m at
          ∙ elim (ℕ_discrete m n) [
            | yes e ↦ rw e (get_or-set_same d (f n) s [] (omega (arith, below n on))
                ∙ sym (get_or-set_same (reordered f N d) n s [] (omega (arith, reordered_long f N d))))
            | no e ↦ get_or-set_other d (f n) (f m) s [] (λ q. e (alone m at q)) ∙ sym (get_or-set_other (reordered f N d) n m s [] e ∙ reordered_at f N d m at)
          ]
