-- Laws of a loop over the marks of sectors: one turn, and the end. The library's `fold` has the loop now; the laws stand, though no proof cites them.
-- Assumes nothing.
use Rattle.std.specs.Prelude.{◌≡◌, ℕ, suc, min, ◌+◌, ◌-◌, ◌≤◌, ◌<◌, Bool, not, ◌&&◌, List, get_or}
use Rattle.std.proofs.Common.{sym, ◌∙◌, arith}
use Rattle.std.proofs.Math.Path.{ap}
use Rattle.std.proofs.Math.Bool.{and-true, and_assoc}
use Rattle.std.proofs.Math.Dec.{eqb}
use Rattle.lists.specs.Lists.{all, range}
use Rattle.fsck_chains.specs.Marks.{clear}
use Rattle.fsck.specs.Free.{min_some}

-- ---- the marks of the sectors from n to total - 1, where `least` is the least of 1 and the marks before

module _ (m : List ℕ) (total n least : ℕ) {b : Bool} (i : not (eqb least 0) && all (λ k. not (clear m k)) (range n (total - n)) ≡ b) where
  pub marks_over : total ≤ n → not (eqb least 0) ≡ b
  marks_over h =
      let e : total - n ≡ 0 = omega arith in
      sym (ap (λ (k : ℕ). not (eqb least 0) && all (λ k. not (clear m k)) (range n k)) e ∙ and-true (not (eqb least 0))) ∙ i

  pub marks_next : n < total → {now : ℕ} → now ≡ min least (get_or m n 0)
      → not (eqb now 0) && all (λ k. not (clear m k)) (range (n + 1) (total - (n + 1))) ≡ b
  marks_next h is =
      let rest : Bool = all (λ k. not (clear m k)) (range (n + 1) (total - (n + 1))) in
      let e : total - n ≡ suc (total - (n + 1)) = omega arith in
      let f : suc n ≡ n + 1 = omega arith in
      ap (λ (k : ℕ). not (eqb k 0) && rest) is
      ∙ ap (λ (c : Bool). c && rest) (min_some least (get_or m n 0))
      ∙ and_assoc (not (eqb least 0)) (not (clear m n)) rest
      ∙ sym (ap (λ (k : ℕ). not (eqb least 0) && all (λ k. not (clear m k)) (range n k)) e
      ∙ ap (λ (k : ℕ). not (eqb least 0) && (not (clear m n) && all (λ k. not (clear m k)) (range k (total - (n + 1))))) f)
      ∙ i
