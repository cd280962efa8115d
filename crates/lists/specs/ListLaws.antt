-- Laws of Lists: a fact of every element, what a test keeps, and how often a number stands in a list.
-- Assumes nothing.
use Rattle.std.specs.Prelude.{◌≡◌, refl, ◌≢◌, ℕ, zero, suc, ◌+◌, ◌-◌, ◌≤◌, ◌<◌, Bool, true, false, not, ◌&&◌, length, get_or, set, take, drop, replicate, eqb}
use Rattle.std.proofs.Common.{sym, ap, ap₂, ◌∙◌, subst, arith, true≢false, length-append, take-append-drop, eq-eqb, ne_eqb, eqb-true}
use Rattle.std.proofs.Math.Nat.{suc-sub-suc}
use Rattle.std.proofs.Math.Decide.{ℕ_discrete}
use Rattle.std.proofs.Math.Bool.{and_assoc}
use Rattle.std.proofs.lemmas.Bool.{false≢true, not-true}
use Rattle.std.proofs.Math.Option.{none, some}
use mathlib.Core.List.{List, [], ◌∷◌, ◌++◌, map, head?, append_assoc}
use Rattle.std.proofs.lemmas.List.{length-replicate}
use Rattle.std.proofs.Math.Seq.{take-nil}
use Rattle.lists.specs.Lists.{all, elem, distinct, same, same_all, cons_if, filter, range, joined, padded, sum, times, last_or, Once}

-- ---- tests

pub and_true : (a b : Bool) → a && b ≡ true → (a ≡ true) × (b ≡ true)
and_true true b e = (refl, e)
and_true false b e = absurd (false≢true e)

pub true_and : {a b : Bool} → a ≡ true → b ≡ true → a && b ≡ true
true_and {b = b} p q = ap (λ (x : Bool). x && b) p ∙ q

pub zero_or : (n : ℕ) → (0 < n → ⊥) → n ≡ 0
zero_or zero h = refl
zero_or (suc n) h = absurd (h (omega arith))

-- ---- every element

infixr 5 ◌also◌
pub data All {A : Type 0} (P : A → Type 0) : List A → Type 0 where
  done : All P []
  ◌also◌ : {x : A} {xs : List A} → P x → All P xs → All P (x ∷ xs)

module _ {A : Type 0} where
  pub head_of_all : {P : A → Type 0} {x : A} {xs : List A} → All P (x ∷ xs) → P x
  head_of_all (h also hs) = h

  pub tail_of : {P : A → Type 0} {x : A} {xs : List A} → All P (x ∷ xs) → All P xs
  tail_of (h also hs) = hs

  pub all_map : {P Q : A → Type 0} {xs : List A} → ((x : A) → P x → Q x) → All P xs → All Q xs
  all_map f done = done
  all_map f (◌also◌ {x = x} h hs) = f x h also all_map f hs

  pub all_both : {P Q : A → Type 0} {xs : List A} → All P xs → All Q xs → All (λ x. P x × Q x) xs
  all_both done k = done
  all_both (h also hs) k = (h, head_of_all k) also all_both hs (tail_of k)

  pub all_join : {P : A → Type 0} {xs ys : List A} → All P xs → All P ys → All P (xs ++ ys)
  all_join done k = k
  all_join (h also hs) k = h also all_join hs k

  pub all_left : {P : A → Type 0} (xs ys : List A) → All P (xs ++ ys) → All P xs
  all_left [] ys h = done
  all_left (x ∷ xs) ys h = head_of_all h also all_left xs ys (tail_of h)

  pub all_right : {P : A → Type 0} (xs : List A) {ys : List A} → All P (xs ++ ys) → All P ys
  all_right [] h = h
  all_right (x ∷ xs) h = all_right xs (tail_of h)

  pub all_take : {P : A → Type 0} (k : ℕ) {xs : List A} → All P xs → All P (take k xs)
  all_take zero h = done
  all_take (suc k) done = done
  all_take (suc k) (h also hs) = h also all_take k hs

  pub all_drop : {P : A → Type 0} (k : ℕ) {xs : List A} → All P xs → All P (drop k xs)
  all_drop zero h = h
  all_drop (suc k) done = done
  all_drop (suc k) (h also hs) = all_drop k hs

  pub all_replicate : {P : A → Type 0} (n : ℕ) (x : A) → P x → All P (replicate n x)
  all_replicate zero x h = done
  all_replicate (suc n) x h = h also all_replicate n x h

  -- what holds of anything
  pub all_any : {P : A → Type 0} (xs : List A) → ((x : A) → P x) → All P xs
  all_any [] h = done
  all_any (x ∷ xs) h = h x also all_any xs h

  pub all_true : {p : A → Bool} (xs : List A) → all p xs ≡ true → All (λ x. p x ≡ true) xs
  all_true [] e = done
  all_true {p} (x ∷ xs) e = let h = and_true (p x) (all p xs) e in h.0 also all_true xs h.1

  pub true_all : {p : A → Bool} {xs : List A} → All (λ x. p x ≡ true) xs → all p xs ≡ true
  true_all done = refl
  true_all (h also hs) = true_and h (true_all hs)

  pub map_same : {B : Type 0} {f g : A → B} {xs : List A} → All (λ x. f x ≡ g x) xs → map f xs ≡ map g xs
  map_same done = refl
  map_same (h also hs) = ap₂ (λ (a : _) (b : List _). a ∷ b) h (map_same hs)

  pub map_take : {B : Type 0} (f : A → B) (k : ℕ) (xs : List A) → take k (map f xs) ≡ map f (take k xs)
  map_take f zero xs = refl
  map_take f (suc k) [] = refl
  map_take f (suc k) (x ∷ xs) = ap (λ (r : List _). f x ∷ r) (map_take f k xs)

  -- ---- what a test keeps

  cons_if_join : (b : Bool) (x : A) (xs ys : List A) → cons_if b x (xs ++ ys) ≡ cons_if b x xs ++ ys
  cons_if_join true x xs ys = refl
  cons_if_join false x xs ys = refl

  pub filter_join : (p : A → Bool) (xs ys : List A) → filter p (xs ++ ys) ≡ filter p xs ++ filter p ys
  filter_join p [] ys = refl
  filter_join p (x ∷ xs) ys = ap (cons_if (p x) x) (filter_join p xs ys) ∙ cons_if_join (p x) x (filter p xs) (filter p ys)

  pub filter_yes : (p : A → Bool) (x : A) (xs : List A) → p x ≡ true → filter p (x ∷ xs) ≡ x ∷ filter p xs
  filter_yes p x xs e = ap (λ (b : Bool). cons_if b x (filter p xs)) e

  pub filter_no : (p : A → Bool) (x : A) (xs : List A) → p x ≡ false → filter p (x ∷ xs) ≡ filter p xs
  filter_no p x xs e = ap (λ (b : Bool). cons_if b x (filter p xs)) e

  cons_if_all : {P : A → Type 0} (x : A) {xs : List A} (b : Bool) → (b ≡ true → P x) → All P xs → All P (cons_if b x xs)
  cons_if_all x true h k = h refl also k
  cons_if_all x false h k = k

  pub all_filter : {P : A → Type 0} {xs : List A} (p : A → Bool) → All P xs → All P (filter p xs)
  all_filter p done = done
  all_filter p (◌also◌ {x = x} h hs) = cons_if_all x (p x) (λ e. h) (all_filter p hs)

  pub filter_all : (p : A → Bool) (xs : List A) → All (λ x. p x ≡ true) (filter p xs)
  filter_all p [] = done
  filter_all p (x ∷ xs) = cons_if_all x (p x) (λ e. e) (filter_all p xs)

  -- all pass
  pub filter_whole : (p : A → Bool) {xs : List A} → All (λ x. p x ≡ true) xs → filter p xs ≡ xs
  filter_whole p done = refl
  filter_whole p (◌also◌ {x = x} {xs = xs} h hs) = filter_yes p x xs h ∙ ap (λ (r : List A). x ∷ r) (filter_whole p hs)

  -- a second test changes nothing where the first one implies it
  pub filter_filter : (p q : A → Bool) → ((a : A) → p a ≡ true → q a ≡ true) → (xs : List A) → filter p (filter q xs) ≡ filter p xs
  filter_filter p q h [] = refl
  filter_filter p q h (x ∷ xs) = by (q x) (p x) refl refl (filter_filter p q h xs)
    where
      by : (a b : Bool) → q x ≡ a → p x ≡ b → filter p (filter q xs) ≡ filter p xs → filter p (cons_if a x (filter q xs)) ≡ cons_if b x (filter p xs)
      by true b e g i = rw g (ap (cons_if b x) i)
      by false true e g i = absurd (true≢false (sym (h x g) ∙ e))
      by false false e g i = i

  -- ---- the first element

  pub head_left : (a : A) (xs ys : List A) → head? xs ≡ some a → head? (xs ++ ys) ≡ some a
  head_left a [] ys e = cc
  head_left a (x ∷ xs) ys e = e

  pub head_right : (xs ys : List A) → head? xs ≡ none → head? (xs ++ ys) ≡ head? ys
  head_right [] ys e = refl
  head_right (x ∷ xs) ys e = cc

  -- the first element of a list has what all of them have
  pub head_all : (P : A → Type 0) {xs : List A} {x : A} → head? xs ≡ some x → All P xs → P x
  head_all P {x = x} e done = let z : ◌≡◌ {A = ℕ} 0 1 = cc in absurd (omega arith)
  head_all P {x = x} e (◌also◌ {x = y} h hs) = let q : y ≡ x = cc in subst P q h

  -- nothing is first in no list
  pub head_none : (xs : List A) → head? xs ≡ none → xs ≡ []
  head_none [] e = refl
  head_none (x ∷ xs) e = cc

  -- a list without elements is the empty one
  pub none_long : (xs : List A) → length xs ≡ 0 → xs ≡ []
  none_long [] e = refl
  none_long (x ∷ xs) e = absurd (omega arith)

-- ---- how often

pub times_none : (n : ℕ) → times n [] ≡ 0
unfolding times
times_none n = refl

pub times_join : (n : ℕ) (xs ys : List ℕ) → times n (xs ++ ys) ≡ times n xs + times n ys
unfolding times
times_join n xs ys = ap length (filter_join (eqb n) xs ys) ∙ length-append (filter (eqb n) xs) (filter (eqb n) ys)

-- what is taken and what is left are all
pub times_split : (n k : ℕ) (xs : List ℕ) → times n (take k xs) + times n (drop k xs) ≡ times n xs
times_split n k xs = sym (times_join n (take k xs) (drop k xs)) ∙ ap (times n) (take-append-drop k xs)

pub times_take : (n k : ℕ) (xs : List ℕ) → times n (take k xs) ≤ times n xs
times_take n k xs = omega (arith, times_split n k xs)

pub times_here : (n m : ℕ) (xs : List ℕ) → n ≡ m → times n (m ∷ xs) ≡ suc (times n xs)
unfolding times
times_here n m xs e = ap length (filter_yes (eqb n) m xs (eq-eqb n m e))

pub times_past : (n m : ℕ) (xs : List ℕ) → n ≢ m → times n (m ∷ xs) ≡ times n xs
unfolding times
times_past n m xs e = ap length (filter_no (eqb n) m xs (ne_eqb n m e))

-- of a number that stands in the list
pub all_at : (P : ℕ → Type 0) {xs : List ℕ} (n : ℕ) → All P xs → 0 < times n xs → P n
all_at P n done k = absurd (omega (arith, times_none n))
all_at P n (◌also◌ {x = x} {xs = xs} h hs) k =
    elim (ℕ_discrete n x) [ yes e ↦ subst P (sym e) h | no e ↦ all_at P n hs (omega (arith, times_past n x xs e)) ]

pub at_all : {P : ℕ → Type 0} (xs : List ℕ) → ((n : ℕ) → 0 < times n xs → P n) → All P xs
at_all [] f = done
at_all (x ∷ xs) f =
    f x (omega (arith, times_here x x xs refl))
    also at_all xs (λ n k. f n (elim (ℕ_discrete n x) [ yes e ↦ omega (arith, times_here n x xs e) | no e ↦ omega (arith, times_past n x xs e) ]))

pub elem_times : (n : ℕ) (xs : List ℕ) → elem n xs ≡ true → 0 < times n xs
elem_times n [] e = absurd (false≢true e)
elem_times n (x ∷ xs) e =
    elim (ℕ_discrete n x) [ yes q ↦ omega (arith, times_here n x xs q) | no q ↦ omega (arith, times_past n x xs q, elem_times n xs (rw (ne_eqb n x q) at e)) ]

pub times_elem : (n : ℕ) (xs : List ℕ) → 0 < times n xs → elem n xs ≡ true
times_elem n [] h = absurd (omega (arith, times_none n))
times_elem n (x ∷ xs) h =
    elim (ℕ_discrete n x) [ yes q ↦ rw (eq-eqb n x q) | no q ↦ rw (ne_eqb n x q) (times_elem n xs (omega (arith, times_past n x xs q))) ]

not_elem : (n : ℕ) (xs : List ℕ) (b : Bool) → elem n xs ≡ b → b ≡ false → times n xs ≡ 0
not_elem n xs true e f = absurd (true≢false f)
not_elem n xs false e f = elim (ℕ_discrete (times n xs) 0) [ yes q ↦ q | no q ↦ absurd (false≢true (sym e ∙ times_elem n xs (omega arith))) ]

pub elem_none : (n : ℕ) (xs : List ℕ) → elem n xs ≡ false → times n xs ≡ 0
elem_none n xs e = not_elem n xs (elem n xs) refl e

pub none_elem : (n : ℕ) (xs : List ℕ) → times n xs ≡ 0 → elem n xs ≡ false
none_elem n xs e = go (elem n xs) refl
  where
    go : (b : Bool) → elem n xs ≡ b → b ≡ false
    go true q = absurd (omega (arith, elem_times n xs q))
    go false q = refl

-- distinct: none more than once
pub distinct_once : (xs : List ℕ) → distinct xs ≡ true → (n : ℕ) → times n xs ≤ 1
distinct_once [] e n = omega (arith, times_none n)
distinct_once (x ∷ xs) e n =
    let h = and_true (not (elem x xs)) (distinct xs) e in
    let k = elem_none x xs (not-true _ h.0) in
    elim (ℕ_discrete n x) [
      | yes q ↦ omega (arith, times_here n x xs q, ap (λ (y : ℕ). times y xs) q)
      | no q ↦ omega (arith, times_past n x xs q, distinct_once xs h.1 n)
    ]

pub once_distinct : (xs : List ℕ) → ((n : ℕ) → times n xs ≤ 1) → distinct xs ≡ true
once_distinct [] h = refl
once_distinct (x ∷ xs) h =
    true_and (ap not (none_elem x xs (omega (arith, h x, times_here x x xs refl))))
    (once_distinct xs (λ n. elim (ℕ_discrete n x) [ yes q ↦ omega (arith, times_here n x xs q, h n) | no q ↦ omega (arith, times_past n x xs q, h n) ]))

-- ---- the pigeonhole: a list that has each of 1 to N - 1 once and nothing else is N - 1 long

-- how many of the elements are below N
tally : ℕ → List ℕ → ℕ
tally zero xs = 0
tally (suc N) xs = tally N xs + times N xs

tally_none : (N : ℕ) → tally N [] ≡ 0
unfolding tally
tally_none zero = refl
tally_none (suc N) = omega (arith, tally_none N, times_none N)

tally_past : (N x : ℕ) (xs : List ℕ) → N ≤ x → tally N (x ∷ xs) ≡ tally N xs
unfolding tally
tally_past zero x xs h = refl
tally_past (suc N) x xs h = omega (arith, tally_past N x xs (omega arith), times_past N x xs (omega arith))

tally_here : (N x : ℕ) (xs : List ℕ) → x < N → tally N (x ∷ xs) ≡ suc (tally N xs)
unfolding tally
tally_here zero x xs h = absurd (omega arith)
tally_here (suc N) x xs h =
    elim (ℕ_discrete N x) [
      | yes e ↦ omega (arith, tally_past N x xs (omega arith), times_here N x xs e)
      | no e ↦ omega (arith, tally_here N x xs (omega arith), times_past N x xs e)
    ]

tally_all : (N : ℕ) (xs : List ℕ) → All (λ x. x < N) xs → tally N xs ≡ length xs
tally_all N [] done = tally_none N
tally_all N (x ∷ xs) (h also hs) = omega (arith, tally_here N x xs h, tally_all N xs hs)

tally_once : (N M : ℕ) (xs : List ℕ) → Once N xs → suc M ≤ N → tally (suc M) xs ≡ M
unfolding tally
tally_once N zero xs o h = omega arith
tally_once N (suc M) xs o h = omega (arith, tally_once N M xs o (omega arith), o.inside (suc M) (omega arith) h)

pub once_length : (N : ℕ) (xs : List ℕ) → Once (suc N) xs → length xs ≡ N
once_length N xs o =
    sym (tally_all (suc N) xs (at_all xs (λ n h. elim (ℕ_discrete (n - N) 0) [
      | yes e ↦ omega arith
      | no e ↦ absurd (omega (arith, o.outside n (omega arith)))
    ])))
    ∙ tally_once (suc N) N xs o (omega arith)

pub once_inside : {N : ℕ} {xs : List ℕ} → Once (suc N) xs → All (λ n. (1 ≤ n) × (n ≤ N)) xs
once_inside {N} {xs} o = at_all xs (λ n h. (
  elim (ℕ_discrete n 0) [ yes e ↦ absurd (omega (arith, ap (λ (m : ℕ). times m xs) e, o.zeroth)) | no e ↦ omega arith ],
  elim (ℕ_discrete (n - N) 0) [ yes e ↦ omega arith | no e ↦ absurd (omega (arith, o.outside n (omega arith))) ],
))

-- the length for any N
pub once_long : (N : ℕ) (xs : List ℕ) → Once N xs → length xs ≡ N - 1
once_long zero [] o = refl
once_long zero (x ∷ xs) o = absurd (omega (arith, o.outside x (omega arith), times_here x x xs refl))
once_long (suc N) xs o = once_length N xs o ∙ omega arith

-- ---- ranges, joined lists, last elements

pub all_range : (P : ℕ → Type 0) (a k n : ℕ) → All P (range a k) → a ≤ n → n < a + k → P n
all_range P a zero n h l m = absurd (omega arith)
all_range P a (suc k) n h l m =
    elim (ℕ_discrete a n) [ yes e ↦ subst P e (head_of_all h) | no e ↦ all_range P (suc a) k n (tail_of h) (omega arith) (omega arith) ]

pub range_all : {P : ℕ → Type 0} (a k : ℕ) → ((n : ℕ) → a ≤ n → n < a + k → P n) → All P (range a k)
range_all a zero f = done
range_all a (suc k) f = f a (omega arith) (omega arith) also range_all (suc a) k (λ n l m. f n (omega arith) (omega arith))

module _ {A B : Type 0} where
  pub all_joined : {P : B → Type 0} {f : A → List B} {xs : List A} → All (λ x. All P (f x)) xs → All P (joined (map f xs))
  all_joined done = done
  all_joined (h also hs) = all_join h (all_joined hs)

  pub joined_join : (f : A → List B) (xs ys : List A) → joined (map f (xs ++ ys)) ≡ joined (map f xs) ++ joined (map f ys)
  joined_join f [] ys = refl
  joined_join f (x ∷ xs) ys = ap (λ (r : List B). f x ++ r) (joined_join f xs ys) ∙ sym (append_assoc (f x) (joined (map f xs)) (joined (map f ys)))

pub joined_id : {A : Type 0} (xs ys : List (List A)) → joined (xs ++ ys) ≡ joined xs ++ joined ys
joined_id [] ys = refl
joined_id (x ∷ xs) ys = ap (λ (r : List _). x ++ r) (joined_id xs ys) ∙ sym (append_assoc x (joined xs) (joined ys))

pub all_mapped : {A B : Type 0} {P : B → Type 0} (f : A → B) {xs : List A} → All (λ x. P (f x)) xs → All P (map f xs)
all_mapped f done = done
all_mapped f (h also hs) = h also all_mapped f hs

pub sum_join : (xs ys : List ℕ) → sum (xs ++ ys) ≡ sum xs + sum ys
sum_join [] ys = omega arith
sum_join (x ∷ xs) ys = omega (arith, sum_join xs ys)

pub last_in : (x : ℕ) (xs : List ℕ) → 0 < times (last_or x xs) (x ∷ xs)
last_in x [] = omega (arith, times_here x x [] refl)
last_in x (y ∷ ys) =
    elim (ℕ_discrete (last_or y ys) x) [
      | yes e ↦ omega (arith, times_here (last_or y ys) x (y ∷ ys) e)
      | no e ↦ omega (arith, times_past (last_or y ys) x (y ∷ ys) e, last_in y ys)
    ]

pub last_joined : (x : ℕ) (ns : List ℕ) (n : ℕ) → last_or x (ns ++ n ∷ []) ≡ n
last_joined x [] n = refl
last_joined x (m ∷ ns) n = last_joined m ns n

-- all but the last, and the last
pub last_apart : (k x : ℕ) (xs : List ℕ) → length xs ≡ suc k → take k xs ++ last_or x xs ∷ [] ≡ xs
last_apart k x [] e = absurd (omega arith)
last_apart zero x (y ∷ []) e = refl
last_apart zero x (y ∷ z ∷ xs) e = absurd (omega arith)
last_apart (suc k) x (y ∷ xs) e = ap (λ (r : List ℕ). y ∷ r) (last_apart k y xs (omega arith))

-- ---- an element by its index

pub all_get_d : {A : Type 0} {P : A → Type 0} {xs : List A} (n : ℕ) (z : A) → All P xs → n < length xs → P (get_or xs n z)
all_get_d n z done h = absurd (omega arith)
all_get_d zero z (p also ps) h = p
all_get_d (suc n) z (p also ps) h = all_get_d n z ps (omega arith)

pub all_set : {A : Type 0} {P : A → Type 0} {xs : List A} (n : ℕ) (x : A) → All P xs → P x → All P (set xs n x)
all_set n x done h = done
all_set zero x (p also ps) h = h also ps
all_set (suc n) x (p also ps) h = p also all_set n x ps h

-- ---- the same bytes

pub same_refl : (xs : List ℕ) → same xs xs ≡ true
same_refl [] = refl
same_refl (x ∷ xs) = true_and (eq-eqb x x refl) (same_refl xs)

pub true_same : {xs ys : List ℕ} → xs ≡ ys → same xs ys ≡ true
true_same {xs} e = ap (same xs) (sym e) ∙ same_refl xs

pub same_true : (xs ys : List ℕ) → same xs ys ≡ true → xs ≡ ys
same_true [] [] e = refl
same_true [] (y ∷ ys) e = absurd (false≢true e)
same_true (x ∷ xs) [] e = absurd (false≢true e)
same_true (x ∷ xs) (y ∷ ys) e =
    let h = and_true (eqb x y) (same xs ys) e in
    ap₂ (λ (a : ℕ) (r : List ℕ). a ∷ r) (eqb-true x y h.0) (same_true xs ys h.1)

-- two lists are the same bytes, or not
pub data Same (xs ys : List ℕ) : Type 0 where
  equal : xs ≡ ys → same xs ys ≡ true → Same xs ys
  unequal : xs ≢ ys → same xs ys ≡ false → Same xs ys

pub same_or_not : (xs ys : List ℕ) → Same xs ys
same_or_not xs ys = by (same xs ys) refl
  where
    by : (b : Bool) → same xs ys ≡ b → Same xs ys
    by true e = equal (same_true xs ys e) e
    by false e = unequal (λ q. true≢false (sym (true_same q) ∙ e)) e

pub same_all_refl : (xs : List (List ℕ)) → same_all xs xs ≡ true
same_all_refl [] = refl
same_all_refl (x ∷ xs) = true_and (same_refl x) (same_all_refl xs)

pub same_all_true : (xs ys : List (List ℕ)) → same_all xs ys ≡ true → xs ≡ ys
same_all_true [] [] e = refl
same_all_true [] (y ∷ ys) e = absurd (false≢true e)
same_all_true (x ∷ xs) [] e = absurd (false≢true e)
same_all_true (x ∷ xs) (y ∷ ys) e =
    let h = and_true (same x y) (same_all xs ys) e in
    ap₂ (λ (a : List ℕ) (r : List (List ℕ)). a ∷ r) (same_true x y h.0) (same_all_true xs ys h.1)

pub padded_long : (n v : ℕ) (xs : List ℕ) → length xs ≤ n → length (padded n v xs) ≡ n
padded_long n v xs h = length-append xs (replicate (n - length xs) v) ∙ omega (arith, length-replicate (n - length xs) v)

pub drop_less : {A : Type 0} (n k : ℕ) (xs : List A) → drop n (take k xs) ≡ take (k - n) (drop n xs)
drop_less zero k xs = let e : k ≡ k - 0 = omega arith in ap (λ (j : ℕ). take j xs) e
drop_less (suc n) zero xs = let e : 0 ≡ 0 - suc n = omega arith in ap (λ (j : ℕ). take j (drop (suc n) xs)) e
drop_less (suc n) (suc k) [] = sym (take-nil (suc k - suc n))
drop_less (suc n) (suc k) (x ∷ xs) = drop_less n k xs ∙ ap (λ (j : ℕ). take j (drop n xs)) (sym (suc-sub-suc k n))

pub drop_take : {A : Type 0} (k n : ℕ) (xs : List A) → drop k (take (k + n) xs) ≡ take n (drop k xs)
drop_take k n xs = let e : k + n - k ≡ n = omega arith in drop_less k (k + n) xs ∙ ap (λ (j : ℕ). take j (drop k xs)) e

-- what is taken, taken by how many they are
pub take_part : {A : Type 0} (most : ℕ) (xs : List A) → take (length (take most xs)) xs ≡ take most xs
take_part zero xs = refl
take_part (suc n) [] = refl
take_part (suc n) (x ∷ xs) = ap (λ (r : List _). x ∷ r) (take_part n xs)

-- ---- a test of two lists one after the other

pub test_join : {A : Type 0} (p : A → Bool) (xs ys : List A) → all p (xs ++ ys) ≡ all p xs && all p ys
test_join p [] ys = refl
test_join p (x ∷ xs) ys = ap (λ (b : Bool). p x && b) (test_join p xs ys) ∙ sym (and_assoc (p x) (all p xs) (all p ys))

pub and_exchange : (a b c e : Bool) → a && b && (c && e) ≡ a && c && (b && e)
and_exchange true true true e = refl
and_exchange true true false e = refl
and_exchange true false true e = refl
and_exchange true false false e = refl
and_exchange false b c e = refl
