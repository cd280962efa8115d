-- The one element of a list that passes a test.
-- Assumes nothing.
use Rattle.std.specs.Prelude.{◌≡◌, refl, ℕ, zero, suc, ◌+◌, ◌≤◌, Bool, not, true, ◌||◌, false, length}
use Rattle.std.proofs.Common.{sym, ap, ap₂, ◌∙◌, subst, arith, length-append}
use Rattle.std.proofs.Math.Option.{some}
use mathlib.Core.List.{List, [], ◌∷◌, map, ◌++◌, head?, map-append}
use Rattle.std.proofs.Math.ListN.{get_elem?}
use Rattle.lists.specs.Lists.{is_some, any, cons_if, filter}
use Rattle.lists.specs.ListLaws.{All, done, ◌also◌, all_map, filter_join, filter_yes, filter_no, filter_whole, none_long}
use Rattle.lists.specs.OneChanged.{OneChanged}

module _ {A : Type 0} (p : A → Bool) where
  none_pass : (xs : List A) → length (filter p xs) ≡ 0 → All (λ x. p x ≡ false) xs
  none_pass [] h = done
  none_pass (x ∷ xs) h = by (p x) refl h (none_pass xs)
    where
      by : (b : Bool) → p x ≡ b → length (cons_if b x (filter p xs)) ≡ 0 → (length (filter p xs) ≡ 0 → All (λ x. p x ≡ false) xs)
          → All (λ x. p x ≡ false) (x ∷ xs)
      by true e k r = absurd (omega arith)
      by false e k r = e also r k

  -- where one passes at most, and x does, the others don't
  pub only_one : (us vs : List A) (x : A) → length (filter p (us ++ x ∷ vs)) ≤ 1 → p x ≡ true → All (λ y. p y ≡ false) us × All (λ y. p y ≡ false) vs
  only_one us vs x h e =
      let k : length (filter p us) + suc (length (filter p vs)) ≤ 1 =
      omega (arith, ap length (filter_join p us (x ∷ vs)), length-append (filter p us) (filter p (x ∷ vs)), ap length (filter_yes p x vs e)) in
      (none_pass us (omega arith), none_pass vs (omega arith))

  -- the test of any is whether a first one passes
  pub any_head : (xs : List A) → any p xs ≡ is_some (head? (filter p xs))
  any_head [] = refl
  any_head (x ∷ xs) = by (p x) (any_head xs)
    where
      by : (b : Bool) → any p xs ≡ is_some (head? (filter p xs)) → b || any p xs ≡ is_some (head? (cons_if b x (filter p xs)))
      by true r = refl
      by false r = r

  -- the element at an index, where it passes and one passes at most
  pub one_at : (xs : List A) (i : ℕ) (x : A) → get_elem? xs i ≡ some x → p x ≡ true → length (filter p xs) ≤ 1 → filter p xs ≡ x ∷ []
  one_at [] i x e q h = let z : ◌≡◌ {A = ℕ} 0 1 = cc in absurd (omega arith)
  one_at (y ∷ ys) zero x e q h =
      let is : y ≡ x = cc in
      let first : filter p (y ∷ ys) ≡ y ∷ filter p ys = filter_yes p y ys (ap p is ∙ q) in
      first ∙ ap₂ (λ (a : A) (r : List A). a ∷ r) is (none_long (filter p ys) (omega (arith, ap length first)))
  one_at (y ∷ ys) (suc i) x e q h = by (p y) refl (λ k. one_at ys i x e q k)
    where
      by : (b : Bool) → p y ≡ b → (length (filter p ys) ≤ 1 → filter p ys ≡ x ∷ []) → filter p (y ∷ ys) ≡ x ∷ []
      by true k rest =
          let first : filter p (y ∷ ys) ≡ y ∷ filter p ys = filter_yes p y ys k in
          absurd (omega (arith, ap length first, ap length (rest (omega (arith, ap length first)))))
      by false k rest =
          let past : filter p (y ∷ ys) ≡ filter p ys = filter_no p y ys k in
          past ∙ rest (omega (arith, ap length past))

-- the list without it
pub without_one : {A : Type 0} (p : A → Bool) (us vs : List A) (x : A) → length (filter p (us ++ x ∷ vs)) ≤ 1 → p x ≡ true
    → filter (λ y. not (p y)) (us ++ x ∷ vs) ≡ us ++ vs
without_one {A} p us vs x h e =
    let k = only_one p us vs x h e in
    filter_join (λ y. not (p y)) us (x ∷ vs)
    ∙ ap₂ (λ (r q : List A). r ++ q) (filter_whole (λ y. not (p y)) (all_map (λ y w. ap not w) k.0))
    (filter_no (λ y. not (p y)) x vs (ap not e) ∙ filter_whole (λ y. not (p y)) (all_map (λ y w. ap not w) k.1))

map_stays : {A : Type 0} (f : A → A) {xs : List A} → All (λ x. f x ≡ x) xs → map f xs ≡ xs
map_stays f done = refl
map_stays f (h also hs) = ap₂ (λ (a : _) (r : List _). a ∷ r) h (map_stays f hs)

-- the list with it changed
pub changed_one : {A : Type 0} (p : A → Bool) (f : A → A) {xs ys : List A} {x y : A} → OneChanged xs ys x y → length (filter p xs) ≤ 1 → p x ≡ true
    → ((z : A) → p z ≡ false → f z ≡ z) → f x ≡ y → map f xs ≡ ys
changed_one {A} p f {x = x} {y = y} q h e stays e' =
    let k = only_one p q.pre q.post x (rw q.was at h) e in
    let now : map f q.pre ++ f x ∷ map f q.post ≡ q.pre ++ y ∷ q.post =
    λ i. map_stays f (all_map stays k.0) i ++ e' i ∷ map_stays f (all_map stays k.1) i in
    ap (map f) q.was ∙ map-append f q.pre (x ∷ q.post) ∙ now ∙ sym q.now

-- the element at an index has what all have
pub all_got : {A : Type 0} {P : A → Type 0} {xs : List A} (i : ℕ) (x : A) → All P xs → get_elem? xs i ≡ some x → P x
all_got i x done e = let z : ◌≡◌ {A = ℕ} 0 1 = cc in absurd (omega arith)
all_got {P = P} zero x (◌also◌ {x = y} h hs) e = let q : y ≡ x = cc in subst P q h
all_got (suc i) x (h also hs) e = all_got i x hs e
