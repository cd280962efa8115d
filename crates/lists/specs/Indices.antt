-- Elements and where they stand: the first index of a number, and the element at an index of a range.
-- Assumes nothing.
use Rattle.std.specs.Prelude.{◌≡◌, refl, ◌≢◌, ℕ, zero, suc, ◌+◌, ◌≤◌, ◌<◌, List, [], ◌∷◌, map, length, get_or}
use Rattle.std.proofs.Common.{sym, ap, ◌∙◌, arith, eq-eqb, ne_eqb}
use Rattle.std.proofs.Math.Decide.{ℕ_discrete}
use Rattle.lists.specs.Lists.{range, times, index_of}
use Rattle.lists.specs.ListLaws.{times_none, times_here, times_past}

pub index_below : (n : ℕ) (xs : List ℕ) → 0 < times n xs → index_of n xs < length xs
index_below n [] h = absurd (omega (arith, times_none n))
index_below n (x ∷ xs) h =
    elim (ℕ_discrete n x) [
      | yes e ↦ rw (eq-eqb n x e) (omega arith)
      | no e ↦ rw (ne_eqb n x e) (let k = index_below n xs (omega (arith, times_past n x xs e)) in omega arith)
    ]

pub at_index : (n : ℕ) (xs : List ℕ) → 0 < times n xs → get_or xs (index_of n xs) 0 ≡ n
at_index n [] h = absurd (omega (arith, times_none n))
at_index n (x ∷ xs) h =
    elim (ℕ_discrete n x) [
      | yes e ↦ rw (eq-eqb n x e) (sym e)
      | no e ↦ rw (ne_eqb n x e) (at_index n xs (omega (arith, times_past n x xs e)))
    ]

pub element_times : (xs : List ℕ) (i : ℕ) → i < length xs → 0 < times (get_or xs i 0) xs
element_times [] i h = absurd (omega arith)
element_times (x ∷ xs) zero h = omega (arith, times_here x x xs refl)
element_times (x ∷ xs) (suc i) h =
    let n : ℕ = get_or xs i 0 in
    let k : 0 < times n xs = element_times xs i (omega arith) in
    elim (ℕ_discrete n x) [ yes e ↦ omega (arith, times_here n x xs e) | no e ↦ omega (arith, times_past n x xs e) ]

pub index_at : (xs : List ℕ) (i : ℕ) → ((n : ℕ) → times n xs ≤ 1) → i < length xs → index_of (get_or xs i 0) xs ≡ i
index_at [] i o h = absurd (omega arith)
index_at (x ∷ xs) zero o h = rw (eq-eqb x x refl)
index_at (x ∷ xs) (suc i) o h =
    let n : ℕ = get_or xs i 0 in
    let k : 0 < times n xs = element_times xs i (omega arith) in
    let apart : n ≢ x = λ e. omega (arith, times_here n x xs e, o n) in
    let fewer : (m : ℕ) → times m xs ≤ 1 =
    λ m. elim (ℕ_discrete m x) [ yes e ↦ omega (arith, times_here m x xs e, o m) | no e ↦ omega (arith, times_past m x xs e, o m) ] in
    rw (ne_eqb n x apart) (ap suc (index_at xs i fewer (omega arith)))

-- ---- ranges

pub index_range : (a k n : ℕ) → a ≤ n → n < a + k → a + index_of n (range a k) ≡ n
index_range a zero n h l = absurd (omega arith)
index_range a (suc k) n h l =
    elim (ℕ_discrete n a) [
      | yes e ↦ rw (eq-eqb n a e) (omega arith)
      | no e ↦ rw (ne_eqb n a e) (let r = index_range (suc a) k n (omega arith) (omega arith) in omega arith)
    ]

pub mapped_range : {A : Type 0} (f : ℕ → A) (z : A) (a N n : ℕ) → n < N → get_or (map f (range a N)) n z ≡ f (a + n)
mapped_range f z a zero n h = absurd (omega arith)
mapped_range f z a (suc N) zero h = let e : a ≡ a + 0 = omega arith in ap f e
mapped_range f z a (suc N) (suc n) h = let e : suc a + n ≡ a + suc n = omega arith in mapped_range f z (suc a) N n (omega arith) ∙ ap f e

pub range_long : (a N : ℕ) → length (range a N) ≡ N
range_long a zero = refl
range_long a (suc N) = ap suc (range_long (suc a) N)
