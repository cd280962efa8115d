-- Rules 6 and 8: the free chain, and the sectors that have a mark.
-- Assumes nothing.
use Rattle.std.specs.Prelude.{◌≡◌, refl, ℕ, zero, suc, min, ◌+◌, ◌≤◌, Bool, true, false, not, ◌&&◌, List, [], ◌∷◌, length, take, drop}
use Rattle.std.specs.List.{fold}
use Rattle.std.proofs.Common.{sym, ◌∙◌, subst, arith, drop-cons}
use Rattle.std.proofs.Math.Path.{ap, ap₂}
use Rattle.std.proofs.Math.Bool.{and-true, and_assoc}
use Rattle.std.proofs.lemmas.Bool.{false≢true}
use Rattle.std.proofs.lemmas.Bool.Decides.{nat_tests}
use Rattle.std.proofs.Math.Dec.{eqb}
use Rattle.lists.specs.Lists.{all, range}
use Rattle.format.specs.Geometry.{Geometry, Next, Disc}
use Rattle.format.specs.Layout.{free_count, chain, chain_ends, free_pointer, free}
use Rattle.fsck_chains.specs.Marks.{marked, fresh, clear}
use Rattle.fsck_chains.specs.Walks.{sound_walk, Ended}
use Rattle.fsck_chains.specs.declared.Chain.{Chain}

-- ---- the free chain

-- it ends, meets only sectors without a mark, and has the length in the free count
unfoldable pub free_good : Geometry → Disc → List ℕ → Bool
free_good G d m = chain_ends G d (free_pointer G d) && fresh m (free G d) && eqb (length (free G d)) (free_count d)

-- what the walk along the free chain finds, and the marks that it leaves
pub record FreeGood (G : Geometry) (d : Disc) (m : List ℕ) (r : Bool) (m' : List ℕ) : Type 0 where
  pub answer : r ≡ free_good G d m
  pub marks : r ≡ true → m' ≡ marked m (free G d)

module _ (G : Geometry) (d : Disc) {p : Next} (first : p ≡ free_pointer G d) (m : List ℕ) where
  pub free_broken : sound_walk G d p m ≡ false → {m' : List ℕ} → FreeGood G d m false m'
  unfolding free_good free
  free_broken e =
      let broken = ap (λ (q : Next). sound_walk G d q m) (sym first) ∙ e in
      record {
        answer = ap (λ (b : Bool). b && eqb (length (chain G d (free_pointer G d))) (free_count d)) (sym broken);
        marks = λ z. absurd (false≢true z);
      }

  pub free_ended : {c : Chain} {m' : List ℕ} → Ended G d p m c m' → (x : ℕ) → x ≡ free_count d → FreeGood G d m (eqb c.count x) m'
  unfolding free_good free
  free_ended {c} {m'} f x h =
      let w = subst (λ (q : Next). Ended G d q m c m') first f in
      record {
        answer = ap₂ eqb w.count h ∙ ap (λ (b : Bool). b && eqb (length (chain G d (free_pointer G d))) (free_count d)) (sym w.sound);
        marks = λ _. w.marks;
      }

-- ---- the least of some marks

-- the least of two numbers is 0 where one of them is
pub min_some : (a b : ℕ) → not (eqb (min a b) 0) ≡ not (eqb a 0) && not (eqb b 0)
min_some a b = grind (arith, nat_tests)

least_some : (a : ℕ) (xs : List ℕ) → not (eqb (fold min a xs) 0) ≡ not (eqb a 0) && all (λ x. not (eqb x 0)) xs
least_some a [] = sym (and-true (not (eqb a 0)))
least_some a (x ∷ xs) =
    let rest : Bool = all (λ x. not (eqb x 0)) xs in
    least_some (min a x) xs ∙ ap (λ (b : Bool). b && rest) (min_some a x) ∙ and_assoc (not (eqb a 0)) (not (eqb x 0)) rest

-- the marks of k sectors from n on
marks_range : (m : List ℕ) (n k : ℕ) → n + k ≤ length m → all (λ x. not (eqb x 0)) (take k (drop n m)) ≡ all (λ i. not (clear m i)) (range n k)
marks_range m n zero h = refl
marks_range m n (suc k) h =
    ap (λ (ys : List ℕ). all (λ x. not (eqb x 0)) (take (suc k) ys)) (drop-cons m n 0 (omega arith))
    ∙ ap (λ (b : Bool). not (clear m n) && b) (marks_range m (suc n) k (omega arith))

pub least_marked : (m : List ℕ) (n k : ℕ) → n + k ≤ length m → not (eqb (fold min 1 (take k (drop n m))) 0) ≡ all (λ i. not (clear m i)) (range n k)
least_marked m n k h = least_some 1 (take k (drop n m)) ∙ marks_range m n k h
