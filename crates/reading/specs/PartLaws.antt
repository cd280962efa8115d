-- Laws of parts: a part of a sector that is filled, and the bytes that are left part by part.
-- Assumes nothing.
use Rattle.std.specs.Prelude.{◌≡◌, refl, ℕ, zero, suc, min, ◌-◌, ◌<◌, true, List, [], ◌∷◌, ◌++◌, length, take, drop, replicate, eqb}
use Rattle.std.proofs.Common.{sym, ap, ap₂, ◌∙◌, arith, length-take, length-drop, take-append-drop, take_at, drop_at, eq-eqb, eqb-true}
use Rattle.lists.specs.Lists.{all, padded}
use Rattle.lists.specs.ListLaws.{and_true, true_and, drop_less}
use Rattle.reading.specs.Plain.{filled}

-- ---- one part: a length byte, bytes, zeros

all_zeros : (k : ℕ) → all (eqb 0) (replicate k 0) ≡ true
all_zeros zero = refl
all_zeros (suc k) = all_zeros k

zeros_all : (xs : List ℕ) → all (eqb 0) xs ≡ true → xs ≡ replicate (length xs) 0
zeros_all [] e = refl
zeros_all (x ∷ xs) e =
    let h = and_true (eqb 0 x) (all (eqb 0) xs) e in
    ap₂ (λ (a : ℕ) (r : List ℕ). a ∷ r) (sym (eqb-true 0 x h.0)) (zeros_all xs h.1)

rest_zeros : (left k : ℕ) (xs : List ℕ) → take left xs ++ replicate k 0 ≡ xs → all (eqb 0) (drop left xs) ≡ true
rest_zeros zero k xs e = ap (all (eqb 0)) (sym e) ∙ all_zeros k
rest_zeros (suc left) k [] e = refl
rest_zeros (suc left) k (x ∷ xs) e = let tail : take left xs ++ replicate k 0 ≡ xs = cc in rest_zeros left k xs tail

-- a length byte and so many of the bytes after it, filled up with zeros
unfoldable pub part : ℕ → List ℕ → List ℕ
part left b = padded (length b) 0 (length (take left (drop 1 b)) ∷ take left (drop 1 b))

pub part_filled : (left : ℕ) (b : List ℕ) → 0 < length b → part left b ≡ b → filled left b ≡ true
unfolding part filled
part_filled left [] h e = absurd (omega arith)
part_filled left (x ∷ xs) h e =
    let size : length (take left xs) ≡ x = cc in
    let room : ℕ = suc (length xs) - suc (length (take left xs)) in
    let rest : take left xs ++ replicate room 0 ≡ xs = cc in
    true_and (eq-eqb x _ (sym size)) (rest_zeros left room xs rest)

pub filled_part : (left : ℕ) (b : List ℕ) → 0 < length b → filled left b ≡ true → part left b ≡ b
unfolding part filled
filled_part left [] h e = absurd (omega arith)
filled_part left (x ∷ xs) h e =
    let f = and_true (eqb x (length (take left xs))) (all (eqb 0) (drop left xs)) e in
    let room : suc (length xs) - suc (length (take left xs)) ≡ length (drop left xs) = omega (arith, length-take left xs, length-drop left xs) in
    ap₂ (λ (a : ℕ) (r : List ℕ). a ∷ r) (sym (eqb-true x _ f.0))
    (ap (λ (j : ℕ). take left xs ++ replicate j 0) room
    ∙ ap (λ (r : List ℕ). take left xs ++ r) (sym (zeros_all (drop left xs) f.1))
    ∙ take-append-drop left xs)

-- ---- the bytes that are left, part by part

pub take_min : (a b : ℕ) (xs : List ℕ) → take a (take b xs) ≡ take (min a b) xs
take_min zero b xs = let e : 0 ≡ min 0 b = omega arith in ap (λ (k : ℕ). take k xs) e
take_min (suc a) zero xs = let e : 0 ≡ min (suc a) 0 = omega arith in ap (λ (k : ℕ). take k xs) e
take_min (suc a) (suc b) [] = let e : suc (min a b) ≡ min (suc a) (suc b) = omega arith in ap (λ (k : ℕ). take k []) e
take_min (suc a) (suc b) (x ∷ xs) =
    let e : suc (min a b) ≡ min (suc a) (suc b) = omega arith in
    ap (λ (r : List ℕ). x ∷ r) (take_min a b xs) ∙ ap (λ (k : ℕ). take k (x ∷ xs)) e

module _ (k left : ℕ) (xs ys : List ℕ) (long : length xs ≡ k) where
  pub first_part : take k (take left (xs ++ ys)) ≡ take left xs
  first_part =
      let turned : min k left ≡ min left k = omega arith in
      take_min k left (xs ++ ys)
      ∙ ap (λ (j : ℕ). take j (xs ++ ys)) turned
      ∙ sym (take_min left k (xs ++ ys))
      ∙ ap (take left) (take_at xs ys k long)

  pub other_parts : drop k (take left (xs ++ ys)) ≡ take (left - k) ys
  other_parts = drop_less k left (xs ++ ys) ∙ ap (take (left - k)) (drop_at xs ys k long)
