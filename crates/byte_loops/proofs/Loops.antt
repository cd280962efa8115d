-- Laws of loops over bytes: one turn, the turn that ends the loop early, and the end. `copy`, `same_at` and `are_zero` go by them; a fill and the test of
-- one value are the library's methods now, and their laws stand.
-- Assumes nothing.
use Rattle.std.specs.Prelude.{◌≡◌, refl, ℕ, zero, suc, ◌+◌, ◌-◌, ◌≤◌, ◌<◌, Bool, true, false, ◌&&◌, List, ◌∷◌, length, get_or, set, drop, replicate, eqb}
use Rattle.std.proofs.Common.{sym, ap, ◌∙◌, arith, add-one, drop_of_length-le, drop-cons, eq-eqb, ne_eqb}
use Rattle.std.proofs.Math.Bool.{and_assoc}
use Rattle.std.proofs.lemmas.List.Edits.{sets}
use Rattle.std.proofs.Math.Seq.{slice}
use Rattle.std.specs.Int.Bits.{bit_or, or_zero_l, or_add_and}
use Rattle.std.proofs.lemmas.Nat.{and_le_r}
use Rattle.lists.specs.Lists.{all, byte, same}
use Rattle.byte_loops.specs.Laws.{slice_over, slice_step}

-- ---- the bytes of xs stored from position a on

pub copy_step : (to : List ℕ) (a i : ℕ) (xs : List ℕ) → i < length xs
    → sets (set to (a + i) (get_or xs i 0)) (a + (i + 1)) (drop (i + 1) xs) ≡ sets to (a + i) (drop i xs)
copy_step to a i xs h =
    let e : a + (i + 1) ≡ suc (a + i) = omega arith in
    rw (e, drop-cons xs i 0 h, add-one i)

pub copy_end : (to : List ℕ) (a i : ℕ) (xs : List ℕ) → length xs ≤ i → sets to a (drop i xs) ≡ to
copy_end to a i xs h = rw (drop_of_length-le xs h)

-- ---- a value stored in the positions up to e

module _ (to : List ℕ) (i e v : ℕ) where
  pub fill_step : i < e → sets (set to i v) (i + 1) (replicate (e - (i + 1)) v) ≡ sets to i (replicate (e - i) v)
  fill_step h =
      let next : i + 1 ≡ suc i = omega arith in
      let more : e - i ≡ suc (e - (i + 1)) = omega arith in
      rw (more, next)

  pub fill_end : e ≤ i → sets to i (replicate (e - i) v) ≡ to
  fill_end h = let none : e - i ≡ 0 = omega arith in rw none

-- ---- two lists compared from index i on

module _ (xs ys : List ℕ) (i : ℕ) where
  pub same_step : i < length xs → i < length ys → byte xs i ≡ byte ys i → same (drop i xs) (drop i ys) ≡ same (drop (i + 1) xs) (drop (i + 1) ys)
  same_step h l e = rw (drop-cons xs i 0 h, drop-cons ys i 0 l, add-one i) (simp (eq-eqb (byte xs i) (byte ys i) e))

  pub same_stop : i < length xs → i < length ys → (byte xs i ≡ byte ys i → ⊥) → same (drop i xs) (drop i ys) ≡ false
  same_stop h l e = rw (drop-cons xs i 0 h, drop-cons ys i 0 l) (simp (ne_eqb (byte xs i) (byte ys i) e))

  pub same_end : length xs ≤ i → length ys ≤ i → same (drop i xs) (drop i ys) ≡ true
  same_end h l = rw (drop_of_length-le xs h, drop_of_length-le ys l)

-- ---- the bytes from position i to e

module _ (xs : List ℕ) (i e : ℕ) (inside : e ≤ length xs) (v : ℕ) where
  pub all_more : i < e → byte xs i ≡ v → all (eqb v) (slice i e xs) ≡ all (eqb v) (slice (i + 1) e xs)
  all_more h q = ap (all (eqb v)) (slice_step xs i e inside h) ∙ simp (eq-eqb v _ (sym q))

  pub all_stop : i < e → (byte xs i ≡ v → ⊥) → all (eqb v) (slice i e xs) ≡ false
  all_stop h q = ap (all (eqb v)) (slice_step xs i e inside h) ∙ simp (ne_eqb v _ (λ p. q (sym p)))

-- ---- bits gathered from bytes: none are set exactly where all of these are zero

or_none : (a b : ℕ) → eqb 0 (bit_or a b) ≡ eqb 0 a && eqb 0 b
or_none zero b = ap (eqb 0) (or_zero_l b)
or_none (suc a) b =
    ne_eqb 0 (bit_or (suc a) b) (λ e. omega (arith, or_add_and (suc a) b, and_le_r (suc a) b))
    ∙ ap (λ (c : Bool). c && eqb 0 b) (sym (ne_eqb 0 (suc a) (λ e. omega arith)))

module _ (xs : List ℕ) (a n : ℕ) (inside : a + n ≤ length xs) where
  pub zero_start : eqb 0 0 && all (eqb 0) (slice (a + 0) (a + n) xs) ≡ all (eqb 0) (slice a (a + n) xs)
  zero_start = let e : a + 0 ≡ a = omega arith in ap (λ (k : ℕ). all (eqb 0) (slice k (a + n) xs)) e

  module _ (i seen : ℕ) where
    pub zero_step : i < n
        → eqb 0 (bit_or seen (byte xs (a + i))) && all (eqb 0) (slice (a + (i + 1)) (a + n) xs) ≡ eqb 0 seen && all (eqb 0) (slice (a + i) (a + n) xs)
    zero_step h =
        let next : a + i + 1 ≡ a + (i + 1) = omega arith in
        let rest : Bool = all (eqb 0) (slice (a + (i + 1)) (a + n) xs) in
        let turn : slice (a + i) (a + n) xs ≡ byte xs (a + i) ∷ slice (a + (i + 1)) (a + n) xs =
        slice_step xs (a + i) (a + n) inside (omega arith) ∙ ap (λ (k : ℕ). byte xs (a + i) ∷ slice k (a + n) xs) next in
        ap (λ (c : Bool). c && rest) (or_none seen (byte xs (a + i)))
        ∙ and_assoc (eqb 0 seen) (eqb 0 (byte xs (a + i))) rest
        ∙ ap (λ (ys : List ℕ). eqb 0 seen && all (eqb 0) ys) (sym turn)

    pub zero_end : n ≤ i → eqb 0 seen && all (eqb 0) (slice (a + i) (a + n) xs) ≡ eqb seen 0
    zero_end h = ap (λ (ys : List ℕ). eqb 0 seen && all (eqb 0) ys) (slice_over xs (a + i) (a + n) inside (omega arith)) ∙ by seen
      where
        by : (k : ℕ) → eqb 0 k && true ≡ eqb k 0
        by zero = refl
        by (suc k) = simp (ne_eqb 0 (suc k) (λ e. omega arith), ne_eqb (suc k) 0 (λ e. omega arith))
