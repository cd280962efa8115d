-- Laws of bytes copied, filled and compared.
-- Assumes nothing.
use Rattle.std.specs.Prelude.{◌≡◌, refl, ℕ, ◌+◌, ◌-◌, ◌≤◌, ◌<◌, true, ◌&&◌, List, [], ◌∷◌, length, take, drop, replicate, eqb}
use Rattle.std.proofs.Common.{sym, ap, ◌∙◌, arith, add-one, length-drop, drop_of_length-le, length-take-le, get_or-take, get_or-drop}
use Rattle.std.proofs.lemmas.List.{length-replicate}
use Rattle.std.specs.List.{fold, list_all}
use Rattle.std.specs.Cmp.Lexicographic.{pointwise}
use borrow.Rule.Slice.PartMut.{put_mid}
use Rattle.std.proofs.lemmas.Slice.{put_mid-paste}
use Rattle.std.proofs.lemmas.List.Edits.{sets, sets-eq}
use Rattle.std.proofs.Math.Seq.{slice, slice-cons, take-length}
use Rattle.std.specs.Int.Bits.{bit_or, or_add_and}
use Rattle.std.proofs.lemmas.Bool.Decides.{nat_tests}
use Rattle.std.proofs.lemmas.Nat.{and_le_r}
use Rattle.lists.specs.Stores.{sets_whole}
use Rattle.lists.specs.Lists.{all, byte, same}

-- ---- a part of a list, written over with as many values

pub put_mid_sets : (l vs ys : List ℕ) (a k : ℕ) → ys ≡ vs → k ≡ length vs → a + length vs ≤ length l → put_mid a k l ys ≡ sets l a vs
put_mid_sets l vs ys a k e n fits = put_mid-paste a k l ys vs (length vs) e (sym n) refl ∙ simp take-length (sym (sets-eq vs l a fits))

-- ---- a value stored over a whole list

pub fill_whole : (to : List ℕ) (n v : ℕ) → n ≡ length to → sets to 0 (replicate (n - 0) v) ≡ replicate n v
fill_whole to n v h =
    let all : n - 0 ≡ n = omega arith in
    ap (λ (k : ℕ). sets to 0 (replicate k v)) all ∙ sets_whole to (replicate n v) (length-replicate n v ∙ h)

-- ---- tests on lists in the words of the library

-- no proof cites it: `same_at` is a loop
pub same_pointwise : (xs ys : List ℕ) → pointwise eqb xs ys ≡ same xs ys
same_pointwise [] [] = refl
same_pointwise [] (y ∷ ys) = refl
same_pointwise (x ∷ xs) [] = refl
same_pointwise (x ∷ xs) (y ∷ ys) = grind (arith, same_pointwise xs ys)

pub all_equal : (v : ℕ) (xs : List ℕ) → list_all (λ x. eqb x v) xs ≡ all (eqb v) xs
all_equal v [] = refl
all_equal v (x ∷ xs) = grind (arith, nat_tests, all_equal v xs)

-- a part of a list
module _ (xs : List ℕ) (start L : ℕ) (fits : start + L ≤ length xs) where
  pub part_long : length (take L (drop start xs)) ≡ L
  part_long = length-take-le L (drop start xs) (omega (arith, length-drop start xs))

  pub part_byte : (j : ℕ) → j < L → byte (take L (drop start xs)) j ≡ byte xs (start + j)
  part_byte j h = get_or-take L (drop start xs) j 0 h ∙ get_or-drop start xs j 0

-- ---- the bytes from position i to e

module _ (xs : List ℕ) (i e : ℕ) (inside : e ≤ length xs) where
  pub slice_over : e ≤ i → slice i e xs ≡ []
  slice_over h = let short : length (take e xs) ≤ i = omega (arith, length-take-le e xs inside) in drop_of_length-le (take e xs) short

  pub slice_step : i < e → slice i e xs ≡ byte xs i ∷ slice (i + 1) e xs
  slice_step h = slice-cons i e xs 0 h inside ∙ ap (λ (k : ℕ). byte xs i ∷ slice k e xs) (sym (add-one i))

  -- whether they all have the value v
  module _ (v : ℕ) where
    pub all_over : e ≤ i → all (eqb v) (slice i e xs) ≡ true
    all_over h = ap (all (eqb v)) (slice_over h)

-- ---- bits gathered from bytes by a fold: none are set exactly where all of these are zero (no proof cites it: `are_zero` is a loop)

pub or_all : (xs : List ℕ) (seen : ℕ) → eqb (fold bit_or seen xs) 0 ≡ eqb seen 0 && all (eqb 0) xs
or_all [] seen = grind (arith, nat_tests)
or_all (x ∷ xs) seen = grind (arith, nat_tests, or_all xs (bit_or seen x), or_add_and seen x, and_le_r seen x)
