-- Lists in another order.
-- Assumes nothing.
use Rattle.std.specs.Prelude.{◌≡◌, refl, ℕ, suc, ◌≤◌, Bool, true, false, List, [], ◌∷◌, map, ◌++◌, length}
use Rattle.std.proofs.Common.{sym, ap, ◌∙◌, arith}
use Rattle.lists.specs.Lists.{cons_if, filter, sum}
use Rattle.lists.specs.ListLaws.{All, done, ◌also◌, head_of_all, tail_of}

pub data Perm {A : Type 0} : List A → List A → Type 0 where
  as_is : {xs : List A} → Perm xs xs
  skip : {x : A} {xs ys : List A} → Perm xs ys → Perm (x ∷ xs) (x ∷ ys)
  swap : {x y : A} {xs : List A} → Perm (x ∷ y ∷ xs) (y ∷ x ∷ xs)
  next : {xs ys zs : List A} → Perm xs ys → Perm ys zs → Perm xs zs

module _ {A : Type 0} where
  pub perm_front : (x : A) (us vs : List A) → Perm (x ∷ us ++ vs) (us ++ x ∷ vs)
  perm_front x [] vs = as_is
  perm_front x (u ∷ us) vs = next swap (skip (perm_front x us vs))

  pub perm_map : {B : Type 0} (f : A → B) {xs ys : List A} → Perm xs ys → Perm (map f xs) (map f ys)
  perm_map f as_is = as_is
  perm_map f (skip p) = skip (perm_map f p)
  perm_map f swap = swap
  perm_map f (next p q) = next (perm_map f p) (perm_map f q)

  skip_if : (b : Bool) (x : A) {xs ys : List A} → Perm xs ys → Perm (cons_if b x xs) (cons_if b x ys)
  skip_if true x p = skip p
  skip_if false x p = p

  swap_if : (b c : Bool) (x y : A) (xs : List A) → Perm (cons_if b x (cons_if c y xs)) (cons_if c y (cons_if b x xs))
  swap_if true true x y xs = swap
  swap_if true false x y xs = as_is
  swap_if false c x y xs = as_is

  pub perm_filter : (p : A → Bool) {xs ys : List A} → Perm xs ys → Perm (filter p xs) (filter p ys)
  perm_filter p as_is = as_is
  perm_filter p (skip {x = x} q) = skip_if (p x) x (perm_filter p q)
  perm_filter p (swap {x = x} {y = y} {xs = xs}) = swap_if (p x) (p y) x y (filter p xs)
  perm_filter p (next q r) = next (perm_filter p q) (perm_filter p r)

  pub perm_length : {xs ys : List A} → Perm xs ys → length xs ≡ length ys
  perm_length as_is = refl
  perm_length (skip p) = ap suc (perm_length p)
  perm_length swap = refl
  perm_length (next p q) = perm_length p ∙ perm_length q

  pub perm_all : {P : A → Type 0} {xs ys : List A} → Perm xs ys → All P xs → All P ys
  perm_all as_is h = h
  perm_all (skip p) (h also hs) = h also perm_all p hs
  perm_all swap (h also hs) = head_of_all hs also (h also tail_of hs)
  perm_all (next p q) h = perm_all q (perm_all p h)

  pub perm_back : {xs ys : List A} → Perm xs ys → Perm ys xs
  perm_back as_is = as_is
  perm_back (skip p) = skip (perm_back p)
  perm_back swap = swap
  perm_back (next p q) = next (perm_back q) (perm_back p)

  -- one element or none has one order
  pub perm_few : (xs ys : List A) → Perm xs ys → length ys ≤ 1 → xs ≡ ys
  perm_few [] [] p h = refl
  perm_few [] (y ∷ ys) p h = absurd (omega (arith, perm_length p))
  perm_few (x ∷ xs) [] p h = absurd (omega (arith, perm_length p))
  perm_few (x ∷ []) (y ∷ []) p h = ap (λ (a : A). a ∷ []) (sym (head_of_all (perm_all {P = λ z. z ≡ x} p (refl also done))))
  perm_few (x ∷ x' ∷ xs) (y ∷ []) p h = absurd (omega (arith, perm_length p))
  perm_few (x ∷ xs) (y ∷ y' ∷ ys) p h = absurd (omega arith)

pub perm_sum : {xs ys : List ℕ} → Perm xs ys → sum xs ≡ sum ys
perm_sum as_is = refl
perm_sum (skip p) = omega (arith, perm_sum p)
perm_sum swap = omega arith
perm_sum (next p q) = perm_sum p ∙ perm_sum q
