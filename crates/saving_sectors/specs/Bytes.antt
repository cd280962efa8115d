-- The bytes of an entry by its two parts, and those of a new directory sector.
-- Assumes nothing.
use Rattle.std.specs.Prelude.{◌≡◌, ℕ, suc, ◌+◌, ◌-◌, List, [], ◌∷◌, ◌++◌, length, drop, replicate}
use Rattle.std.proofs.Common.{sym, ap, ◌∙◌, arith, append-nil, drop_of_length-le}
use Rattle.std.proofs.lemmas.List.{take_at, drop_at}
use borrow.Rule.Slice.PartMut.{put_mid}
use Rattle.std.proofs.lemmas.List.Edits.{sets-eq}
use Rattle.lists.specs.Lists.{padded}
use Rattle.format.specs.Geometry.{Geometry, stop}
use Rattle.format.specs.Layout.{link_bytes}
use Rattle.format.specs.Effects.{with_slot}

-- a list written over from the end of its first part on
pub two_parts : (a k : ℕ) (xs zs ys : List ℕ) → length xs ≡ a → length zs ≡ k → put_mid a k (xs ++ zs) ys ≡ xs ++ ys
two_parts a k xs zs ys e f =
    let over : drop k zs ≡ [] = drop_of_length-le zs (omega arith) in
    simp (take_at, drop_at, over, append-nil)

-- "all zeros but for its count and its first entry"
pub new_sector : (G : Geometry) (entry : List ℕ) → length entry ≡ 16 → link_bytes G stop ++ padded 254 0 (1 ∷ entry) ≡ with_slot (replicate 256 0) 0 1 entry
unfolding with_slot
new_sector G entry sixteen =
    let zeros : List ℕ = replicate 256 0 in
    let left : drop (2 + suc (length entry)) zeros ≡ replicate (254 - suc (length entry)) 0 =
    ap (λ (k : ℕ). drop (2 + suc k) zeros) sixteen ∙ sym (ap (λ (k : ℕ). replicate (254 - suc k) 0) sixteen) in
    sym (sets-eq (1 ∷ entry) zeros 2 (omega arith) ∙ ap (λ (r : List ℕ). 0 ∷ 0 ∷ 1 ∷ (entry ++ r)) left)
