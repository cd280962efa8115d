-- Laws of letters, padding and the first dot in loops and copies by index. The library's methods have the loops now; the laws stand.
-- Assumes nothing.
use Rattle.std.specs.Prelude.{ℕ, zero, suc, ◌+◌, ◌-◌, ◌<◌, ◌≤◌, ◌≡◌, Bool, true, ◌&&◌, cond, List, [], ◌∷◌, ◌++◌, eqb, length, get_or, take, drop, replicate}
use Rattle.std.proofs.Common.{arith, zero-add, add-one, ap, ◌∙◌, append_assoc, length-drop}
use Rattle.std.proofs.Math.Nat.{zero-sub, sub-zero}
use Rattle.std.proofs.Math.Numerals.{unary_clauses}
use Rattle.std.proofs.Math.ListN.{drop_of_length-le}
use Rattle.std.proofs.lemmas.List.{replicate-append-replicate}
use Rattle.std.proofs.Math.Seq.{drop-cons, take-length, take-append_seam, drop-append-add, paste}
use Rattle.lists.specs.Lists.{all, padded}
use Rattle.lists.specs.ListLaws.{padded_long}
use Rattle.format.specs.Names.{dot, space, before_dot, nine_bytes}

-- ---- a loop over a list, at index i (`simp` takes `within` and `past` from what is in scope)

module _ (s : List ℕ) (i : ℕ) (within : i < length s) where
  pub all_drop : (p : ℕ → Bool) → all p (drop i s) ≡ p (get_or s i 0) && all p (drop (i + 1) s)
  all_drop p = rw (add-one, drop-cons s i 0)

  pub before_dot_drop : before_dot (drop i s) ≡ cond (eqb (get_or s i 0) dot) [] (get_or s i 0 ∷ before_dot (drop (i + 1) s))
  unfolding before_dot
  before_dot_drop = rw (add-one, drop-cons s i 0)

module _ (s : List ℕ) (i : ℕ) (past : length s ≤ i) where
  pub all_end : (p : ℕ → Bool) → all p (drop i s) ≡ true
  all_end p = rw drop_of_length-le

  pub before_dot_end : before_dot (drop i s) ≡ []
  unfolding before_dot
  before_dot_end = rw drop_of_length-le

-- ---- padding

drop_replicate : (k n v : ℕ) → drop k (replicate n v) ≡ replicate (n - k) v
drop_replicate zero n v = rw sub-zero
drop_replicate (suc k) zero v = rw zero-sub
drop_replicate (suc k) (suc n) v = simp unary_clauses (drop_replicate k n v)

-- a text copied over the first of n equal bytes
pub paste_padded : (n v : ℕ) (s : List ℕ) → paste (replicate n v) 0 s (length s) ≡ padded n v s
paste_padded n v s = simp (zero-add, take-length, drop_replicate)

paste_append : (xs ys e : List ℕ) (at n : ℕ) → length xs ≡ at → paste (xs ++ ys) at e n ≡ xs ++ paste ys 0 e n
paste_append xs ys e at n long = rw (← long) (simp (take-append_seam, drop-append-add, zero-add, append_assoc))

padded_add : (k v : ℕ) (s : List ℕ) → length s ≤ k → (m : ℕ) → padded (k + m) v s ≡ padded k v s ++ replicate m v
padded_add k v s few m =
    let rest : k + m - length s ≡ k - length s + m = omega arith in
    simp (rest, append_assoc, replicate-append-replicate)

module _ (n : List ℕ) (few : length n ≤ 6) where
  padded_name : padded 9 space n ≡ nine_bytes n []
  padded_name = padded_add 6 space n few 3

  -- an extension copied over the last three bytes of a padded name
  pub paste_extension : (e : List ℕ) → paste (padded 9 space n) 6 e (length e) ≡ nine_bytes n e
  paste_extension e =
      ap (λ (nine : List ℕ). paste nine 6 e (length e)) padded_name
      ∙ paste_append (padded 6 space n) (replicate 3 space) e 6 (length e) (padded_long 6 space n few)
      ∙ ap (λ (r : List ℕ). padded 6 space n ++ r) (paste_padded 3 space e)

-- what `&s[k..]` holds
pub take_rest : (s : List ℕ) (k : ℕ) → take (length s - k) (drop k s) ≡ drop k s
take_rest s k = simp (← length-drop, take-length)
