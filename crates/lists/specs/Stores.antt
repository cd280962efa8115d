-- Elements stored in a list from an index on: what is found there, and elsewhere, and what is stored over it.
-- Assumes nothing.
use Rattle.std.specs.Prelude.{◌≡◌, refl, ◌≢◌, ℕ, zero, suc, ◌+◌, ◌-◌, ◌≤◌, ◌<◌, List, [], ◌∷◌, ◌++◌, length, get_or, set, take, drop}
use Rattle.std.proofs.Common.{sym, ap, ◌∙◌, arith, append-nil, length-set, drop_of_length-le, ext_get_or, get_or-set_other, get_or-set_same, drop-set-lt}
use Rattle.std.proofs.Math.Decide.{dec_le}
use Rattle.std.proofs.lemmas.List.Edits.{sets, sets-eq}
use Rattle.std.proofs.Math.Seq.{length-sets, take-set-lt}
use Rattle.std.proofs.lemmas.List.{take-set-le, drop-set-add}
use Rattle.lists.specs.Lists.{front}

module _ {A : Type 0} where
  -- an index that isn't stored to
  pub get_d_sets_off : (vs l : List A) (i k : ℕ) (z : A) → (i ≤ k → i + length vs ≤ k) → get_or (sets l i vs) k z ≡ get_or l k z
  get_d_sets_off [] l i k z h = refl
  get_d_sets_off (v ∷ vs) l i k z h =
      let ne : k ≢ i = λ e. omega (arith, h (omega arith)) in
      get_d_sets_off vs (set l i v) (suc i) k z (λ a. omega (arith, h (omega arith))) ∙ get_or-set_other l i k v z ne

  -- an index that is
  pub get_d_sets_in : (vs l : List A) (i k : ℕ) (z : A) → k < length vs → i + length vs ≤ length l → get_or (sets l i vs) (i + k) z ≡ get_or vs k z
  get_d_sets_in [] l i k z h b = absurd (omega arith)
  get_d_sets_in (v ∷ vs) l i zero z h b =
      get_d_sets_off vs (set l i v) (suc i) (i + 0) z (λ a. omega arith)
      ∙ ap (λ (j : ℕ). get_or (set l i v) j z) (omega arith) ∙ get_or-set_same l i v z (omega arith)
  get_d_sets_in (v ∷ vs) l i (suc k) z h b =
      ap (λ (j : ℕ). get_or (sets (set l i v) (suc i) vs) j z) (omega arith)
      ∙ get_d_sets_in vs (set l i v) (suc i) k z (omega arith) (omega (arith, length-set l i v))

  -- a part after it
  pub drop_sets : (vs l : List A) (i a : ℕ) → i + length vs ≤ a → drop a (sets l i vs) ≡ drop a l
  drop_sets [] l i a h = refl
  drop_sets (v ∷ vs) l i a h = drop_sets vs (set l i v) (suc i) a (omega arith) ∙ drop-set-lt a l i v (omega arith)

  -- a part before it
  pub part_sets : (vs l : List A) (n i a : ℕ) → a + n ≤ i → take n (drop a (sets l i vs)) ≡ take n (drop a l)
  part_sets [] l n i a h = refl
  part_sets (v ∷ vs) l n i a h =
      part_sets vs (set l i v) n (suc i) a (omega arith)
      ∙ ap (λ (j : ℕ). take n (drop a (set l j v))) (omega arith)
      ∙ ap (take n) (drop-set-add a l (i - a) v)
      ∙ take-set-le n (drop a l) (i - a) v (omega arith)

  -- the part that holds it
  pub part_sets_in : (vs l : List A) (n k a : ℕ) → k + length vs ≤ n → take n (drop a (sets l (a + k) vs)) ≡ sets (take n (drop a l)) k vs
  part_sets_in [] l n k a h = refl
  part_sets_in (v ∷ vs) l n k a h =
      ap (λ (j : ℕ). take n (drop a (sets (set l (a + k) v) j vs))) (omega arith)
      ∙ part_sets_in vs (set l (a + k) v) n (suc k) a (omega arith)
      ∙ ap (λ (r : List A). sets (take n r) (suc k) vs) (drop-set-add a l k v)
      ∙ ap (λ (r : List A). sets r (suc k) vs) (take-set-lt n (drop a l) k v (omega arith))

  -- a byte after a store is that of l₀ where what is stored is l₀'s and what stays is
  pub store_back : (vs l l₀ : List A) (i k : ℕ) (z : A) → i + length vs ≤ length l → ((j : ℕ) → j < length vs → get_or vs j z ≡ get_or l₀ (i + j) z)
      → ((i ≤ k → i + length vs ≤ k) → get_or l k z ≡ get_or l₀ k z) → get_or (sets l i vs) k z ≡ get_or l₀ k z
  store_back vs l l₀ i k z fits stored stays =
      elim (dec_le i k) [
        | yes a ↦ elim (dec_le (i + length vs) k) [
          | yes b ↦ get_d_sets_off vs l i k z (λ h. b) ∙ stays (λ h. b)
          | no b ↦
              let at : i + (k - i) ≡ k = omega arith in
              ap (λ (j : ℕ). get_or (sets l i vs) j z) (sym at) ∙ get_d_sets_in vs l i (k - i) z (omega arith) fits ∙ stored (k - i) (omega arith)
              ∙ ap (λ (j : ℕ). get_or l₀ j z) at
        ]
        | no a ↦ get_d_sets_off vs l i k z (λ h. absurd (a h)) ∙ stays (λ h. absurd (a h))
      ]

  -- one store behind the other
  pub sets_append : (l : List A) (i : ℕ) (xs ys : List A) → sets (sets l i xs) (i + length xs) ys ≡ sets l i (xs ++ ys)
  sets_append l i [] ys = let e : i + 0 ≡ i = omega arith in ap (λ (j : ℕ). sets l j ys) e
  sets_append l i (x ∷ xs) ys =
      let e : i + suc (length xs) ≡ suc i + length xs = omega arith in
      ap (λ (j : ℕ). sets (sets (set l i x) (suc i) xs) j ys) e ∙ sets_append (set l i x) (suc i) xs ys

  -- a list stored over the whole of one as long
  pub sets_whole : (l xs : List A) → length xs ≡ length l → sets l 0 xs ≡ xs
  sets_whole l xs h =
      sets-eq xs l 0 (omega arith) ∙ ap (λ (r : List A). xs ++ r) (drop_of_length-le l {i = 0 + length xs} (omega arith)) ∙ append-nil xs

  -- as many stored again at the same index
  pub sets_again : (l xs ys : List A) (i : ℕ) (z : A) → length xs ≡ length ys → i + length ys ≤ length l → sets (sets l i xs) i ys ≡ sets l i ys
  sets_again l xs ys i z e h =
      ext_get_or z _ _ (length-sets (sets l i xs) i ys ∙ length-sets l i xs ∙ sym (length-sets l i ys)) (λ k n.
      store_back ys (sets l i xs) (sets l i ys) i k z (omega (arith, length-sets l i xs)) (λ j m. sym (get_d_sets_in ys l i j z m h))
      (λ out. get_d_sets_off xs l i k z (λ a. omega (arith, out a)) ∙ sym (get_d_sets_off ys l i k z out)))

  -- what stands there already, stored
  pub sets_same : (l xs : List A) (i : ℕ) (z : A) → i + length xs ≤ length l → ((j : ℕ) → j < length xs → get_or xs j z ≡ get_or l (i + j) z) → sets l i xs ≡ l
  sets_same l xs i z h e = ext_get_or z _ _ (length-sets l i xs) (λ k n. store_back xs l l i k z h e (λ out. refl))

  -- what stands at two indices, stored there again after as much else was
  pub store_twice : (l xs ys xs' ys' : List A) (i j : ℕ) (z : A) → length xs ≡ length xs' → length ys ≡ length ys'
      → i + length xs' ≤ length l → j + length ys' ≤ length l
      → ((a : ℕ) → a < length xs' → get_or xs' a z ≡ get_or l (i + a) z) → ((a : ℕ) → a < length ys' → get_or ys' a z ≡ get_or l (j + a) z)
      → sets (sets (sets (sets l i xs) j ys) i xs') j ys' ≡ l
  store_twice l xs ys xs' ys' i j z ex ey hx hy bx by =
      let l₁ : List A = sets l i xs in
      let l₂ : List A = sets l₁ j ys in
      let l₃ : List A = sets l₂ i xs' in
      let n₂ : length l₂ ≡ length l = length-sets l₁ j ys ∙ length-sets l i xs in
      let n₃ : length l₃ ≡ length l = length-sets l₂ i xs' ∙ n₂ in
      ext_get_or z _ _ (length-sets l₃ j ys' ∙ n₃) (λ k n.
      store_back ys' l₃ l j k z (omega arith) by
      (λ out. store_back xs' l₂ l i k z (omega arith) bx
      (λ out'. get_d_sets_off ys l₁ j k z (λ a. omega (arith, out a)) ∙ get_d_sets_off xs l i k z (λ a. omega (arith, out' a)))))

-- bytes stored over the front
pub sets_front : (l xs : List ℕ) → length xs ≤ length l → sets l 0 xs ≡ front xs l
sets_front l xs h =
    let z : 0 + length xs ≡ length xs = omega arith in
    sets-eq xs l 0 (omega arith) ∙ ap (λ (k : ℕ). xs ++ drop k l) z
