-- How often a number stands in a range and in what a test keeps, and how long a list without repeats can be.
-- Assumes nothing.
use Rattle.std.specs.Prelude.{◌≡◌, refl, ℕ, zero, suc, ◌+◌, ◌-◌, ◌≤◌, ◌<◌, Bool, not, true, false, ◌&&◌, List, [], ◌∷◌, ◌++◌, length, eqb, leb}
use Rattle.std.proofs.Common.{sym, ap, ◌∙◌, arith, true≢false, length-append, eqb-true, leb-true}
use Rattle.std.proofs.Math.Decide.{dec_le, ℕ_discrete}
use Rattle.std.proofs.lemmas.Bool.{false≢true}
use Rattle.lists.specs.Lists.{all, elem, cons_if, filter, range, times, last_or, Once}
use Rattle.lists.specs.ListLaws.{and_true, zero_or, All, all_map, all_true, all_at, filter_yes, filter_no, all_filter, filter_all, times_none, times_join, times_here, times_past, times_elem, none_elem, once_long, all_range, range_all, last_in}

-- what stands in a list stands in the list with one more
pub times_more : (n m : ℕ) (xs : List ℕ) → 0 < times n xs → 0 < times n (m ∷ xs)
times_more n m xs h = elim (ℕ_discrete n m) [ yes e ↦ omega (arith, times_here n m xs e) | no e ↦ omega (arith, times_past n m xs e) ]

pub one_at_most : (n a : ℕ) → times n (a ∷ []) ≤ 1
one_at_most n a = elim (ℕ_discrete n a) [ yes w ↦ omega (arith, times_here n a [] w, times_none n) | no w ↦ omega (arith, times_past n a [] w, times_none n) ]

-- ---- ranges

pub range_within : (a k n : ℕ) → 0 < times n (range a k) → (a ≤ n) × (n < a + k)
range_within a zero n h = absurd (omega (arith, times_none n))
range_within a (suc k) n h =
    elim (ℕ_discrete n a) [ yes e ↦ omega arith | no e ↦ let r = range_within (suc a) k n (omega (arith, times_past n a (range (suc a) k) e)) in omega arith ]

pub times_range : (a k n : ℕ) → a ≤ n → n < a + k → times n (range a k) ≡ 1
times_range a zero n h l = absurd (omega arith)
times_range a (suc k) n h l =
    elim (ℕ_discrete n a) [
      | yes e ↦ omega (arith, times_here n a (range (suc a) k) e, zero_or (times n (range (suc a) k)) (λ q. omega (arith, range_within (suc a) k n q)))
      | no e ↦ omega (arith, times_past n a (range (suc a) k) e, times_range (suc a) k n (omega arith) (omega arith))
    ]

-- ---- what a test keeps

pub times_kept : (p : ℕ → Bool) (n : ℕ) (xs : List ℕ) → p n ≡ true → times n (filter p xs) ≡ times n xs
times_kept p n [] e = refl
times_kept p n (x ∷ xs) e = by (p x) refl (times_kept p n xs e)
  where
    by : (b : Bool) → p x ≡ b → times n (filter p xs) ≡ times n xs → times n (filter p (x ∷ xs)) ≡ times n (x ∷ xs)
    by true q h =
        ap (times n) (filter_yes p x xs q)
        ∙ elim (ℕ_discrete n x) [
          | yes w ↦ omega (arith, times_here n x xs w, times_here n x (filter p xs) w)
          | no w ↦ omega (arith, times_past n x xs w, times_past n x (filter p xs) w)
        ]
    by false q h = ap (times n) (filter_no p x xs q) ∙ h ∙ sym (times_past n x xs (λ w. true≢false (sym e ∙ ap p w ∙ q)))

pub times_lost : (p : ℕ → Bool) (n : ℕ) (xs : List ℕ) → p n ≡ false → times n (filter p xs) ≡ 0
times_lost p n xs e = zero_or (times n (filter p xs)) (λ h. false≢true (sym e ∙ all_at (λ m. p m ≡ true) n (filter_all p xs) h))

-- those that pass and those that don't are all
pub filter_parts : {A : Type 0} (p : A → Bool) (xs : List A) → length (filter p xs) + length (filter (λ x. not (p x)) xs) ≡ length xs
filter_parts p [] = refl
filter_parts p (x ∷ xs) = by (p x) (filter_parts p xs)
  where
    by : (b : Bool) → length (filter p xs) + length (filter (λ x. not (p x)) xs) ≡ length xs
        → length (cons_if b x (filter p xs)) + length (cons_if (not b) x (filter (λ x. not (p x)) xs)) ≡ suc (length xs)
    by true h = omega arith
    by false h = omega arith

-- ---- lists without repeats

pub below_none : {N : ℕ} {xs : List ℕ} (n : ℕ) → All (λ m. m < N) xs → N ≤ n → times n xs ≡ 0
below_none {N} {xs} n b h = zero_or (times n xs) (λ k. omega (arith, all_at (λ m. m < N) n b k))

-- each of 1 to N - 1 that isn't in the list
missing : ℕ → List ℕ → List ℕ
missing N xs = filter (λ n. not (elem n xs)) (range 1 (N - 1))

with_missing : (N : ℕ) (xs : List ℕ) → All (λ n. n < N) xs → times 0 xs ≡ 0 → ((n : ℕ) → times n xs ≤ 1) → Once N (xs ++ missing N xs)
unfolding missing
with_missing N xs below zeroth few =
    record {
      inside = λ n h k.
          elim (ℕ_discrete (times n xs) 0) [
            | yes e ↦
                let kept = times_kept (λ m. not (elem m xs)) n (range 1 (N - 1)) (ap not (none_elem n xs e)) in
                omega (arith, times_join n xs (missing N xs), kept, times_range 1 (N - 1) n (omega arith) (omega arith))
            | no e ↦
                let lost = times_lost (λ m. not (elem m xs)) n (range 1 (N - 1)) (ap not (times_elem n xs (omega arith))) in
                omega (arith, few n, times_join n xs (missing N xs), lost)
          ];
      zeroth = omega (arith, times_join 0 xs (missing N xs), not_missing 0 (λ h. omega arith));
      outside = λ n h. omega (arith, below_none n below h, times_join n xs (missing N xs), not_missing n (λ k. omega arith));
    }
  where
    not_missing : (n : ℕ) → ((0 < n) × (n < N) → ⊥) → times n (missing N xs) ≡ 0
    not_missing n h = zero_or (times n (missing N xs)) (λ k.
        let w = all_at (λ m. (0 < m) × (m < N)) n (all_filter (λ n. not (elem n xs)) (range_all 1 (N - 1) (λ m a b. (a, omega arith)))) k in h w)

-- the pigeonhole: numbers of 1 to N - 1, none twice, are N - 1 at most
pub few_below : (N : ℕ) (xs : List ℕ) → All (λ n. n < N) xs → times 0 xs ≡ 0 → ((n : ℕ) → times n xs ≤ 1) → length xs ≤ N - 1
few_below N xs below zeroth few = omega (arith, once_long N (xs ++ missing N xs) (with_missing N xs below zeroth few), length-append xs (missing N xs))

-- n stands a times in a list, once at most, and is one of 1 to N - 1 where it does
pub record OnceAt (N n a : ℕ) : Type 0 where
  pub few : a ≤ 1
  pub low : 0 < a → 0 < n
  pub high : 0 < a → n < N

pub once_at : {N : ℕ} (xs : List ℕ) → Once N xs → (n : ℕ) → OnceAt N n (times n xs)
once_at {N} xs o n =
    elim (ℕ_discrete n 0) [
      | yes q ↦
          let z : times n xs ≡ 0 = ap (λ (k : ℕ). times k xs) q ∙ o.zeroth in
          record { few = omega arith; low = λ h. absurd (omega arith); high = λ h. absurd (omega arith) }
      | no q ↦ elim (dec_le N n) [
        | yes l ↦ let z = o.outside n l in record { few = omega arith; low = λ h. omega arith; high = λ h. absurd (omega arith) }
        | no l ↦ let z = o.inside n (omega arith) (omega arith) in record { few = omega arith; low = λ h. omega arith; high = λ h. omega arith }
      ]
    ]

-- the last of a list that isn't empty stands in it
pub last_of : (ns : List ℕ) → 0 < length ns → 0 < times (last_or 0 ns) ns
last_of [] h = absurd (omega arith)
last_of (n ∷ ns) h = last_in n ns

-- ---- lists that have each of 1 to N - 1 once

-- the numbers in order
pub in_order_once : (k : ℕ) → Once (suc k) (range 1 k)
in_order_once k =
    record {
      inside = λ n h l. times_range 1 k n h (omega arith);
      zeroth = zero_or (times 0 (range 1 k)) (λ h. omega (arith, (range_within 1 k 0 h).0));
      outside = λ n h. zero_or (times n (range 1 k)) (λ q. omega (arith, (range_within 1 k n q).1));
    }

-- whether a list has each of 1 to k once and nothing else
abbrev pub permutes : ℕ → List ℕ → Bool
permutes k xs = all (λ s. eqb (length (filter (eqb s) xs)) 1) (range 1 k) && all (λ s. leb 1 s && leb s k) xs

-- a list that passes the test, which the checker computes
pub permutes_once : (k : ℕ) (xs : List ℕ) → permutes k xs ≡ true → Once (suc k) xs
unfolding times
permutes_once k xs e =
    let h = and_true (all (λ s. eqb (times s xs) 1) (range 1 k)) (all (λ s. leb 1 s && leb s k) xs) e in
    let within : All (λ s. (1 ≤ s) × (s ≤ k)) xs =
    all_map (λ s q. let w = and_true (leb 1 s) (leb s k) q in (leb-true 1 s w.0, leb-true s k w.1)) (all_true xs h.1) in
    record {
      inside = λ n a b. eqb-true (times n xs) 1 (all_range (λ s. eqb (times s xs) 1 ≡ true) 1 k n (all_true (range 1 k) h.0) a (omega arith));
      zeroth = zero_or (times 0 xs) (λ q. omega (arith, (all_at (λ s. (1 ≤ s) × (s ≤ k)) 0 within q).0));
      outside = λ n a. zero_or (times n xs) (λ q. omega (arith, (all_at (λ s. (1 ≤ s) × (s ≤ k)) n within q).1));
    }

-- a list without repeats, nor 0, that has each of them
pub all_once : (N : ℕ) (xs : List ℕ) → ((n : ℕ) → times n (0 ∷ xs) ≤ 1) → ((n : ℕ) → 0 < n → n < N → 0 < times n xs) → All (λ n. n < N) xs → Once N xs
all_once N xs apart met below =
    record {
      inside = λ n h k. omega (arith, apart n, times_past n 0 xs (omega arith), met n h k);
      zeroth = omega (arith, apart 0, times_here 0 0 xs refl);
      outside = λ n h. below_none n below h;
    }

-- ---- one of three lists

-- n stands in at most one of three lists, a, b and c times, and is one of 1 to N - 1 where it stands in one
pub record OneOf (N n a b c : ℕ) : Type 0 where
  pub one : a + b + c ≤ 1
  pub low : 0 < a + b + c → 0 < n
  pub high : 0 < a + b + c → n < N

pub one_of : {N : ℕ} (xs ys zs : List ℕ) → Once N (xs ++ ys ++ zs) → (n : ℕ) → OneOf N n (times n xs) (times n ys) (times n zs)
one_of {N} xs ys zs o n =
    let e : times n (xs ++ ys ++ zs) ≡ times n xs + times n ys + times n zs = omega (arith, times_join n (xs ++ ys) zs, times_join n xs ys) in
    let w : OnceAt N n (times n (xs ++ ys ++ zs)) = once_at (xs ++ ys ++ zs) o n in
    record { one = omega arith; low = λ h. w.low (omega arith); high = λ h. w.high (omega arith) }

-- three lists in which each number stands as often as in three others
pub once_parts : {N : ℕ} (xs ys zs xs' ys' zs' : List ℕ) → ((n : ℕ) → times n xs' + times n ys' + times n zs' ≡ times n xs + times n ys + times n zs)
    → Once N (xs ++ ys ++ zs) → Once N (xs' ++ ys' ++ zs')
once_parts xs ys zs xs' ys' zs' e o =
    record {
      inside = λ n h k. as_often n ∙ o.inside n h k;
      zeroth = as_often 0 ∙ o.zeroth;
      outside = λ n h. as_often n ∙ o.outside n h;
    }
  where
    as_often : (n : ℕ) → times n (xs' ++ ys' ++ zs') ≡ times n (xs ++ ys ++ zs)
    as_often n = omega (arith, e n, times_join n (xs ++ ys) zs, times_join n xs ys, times_join n (xs' ++ ys') zs', times_join n xs' ys')

-- none stands twice, nor 0
pub once_all_apart : {N : ℕ} (xs : List ℕ) → Once N xs → (n : ℕ) → times n (0 ∷ xs) ≤ 1
once_all_apart xs o n =
    elim (ℕ_discrete n 0) [
      | yes q ↦ omega (arith, times_here n 0 xs q, o.zeroth, ap (λ (k : ℕ). times k xs) q)
      | no q ↦ omega (arith, times_past n 0 xs q, (once_at xs o n).few)
    ]

-- so of the first two of three lists
pub once_apart : {N : ℕ} (xs ys zs : List ℕ) → Once N (xs ++ ys ++ zs) → (n : ℕ) → times n (0 ∷ xs ++ ys) ≤ 1
once_apart xs ys zs o n = omega (arith, once_all_apart (xs ++ ys ++ zs) o n, times_join n (0 ∷ xs ++ ys) zs)
