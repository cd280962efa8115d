-- Marks: one number for each sector, not 0 where a chain has met it; and what they say of the list of sectors met.
-- Assumes nothing.
use Rattle.std.specs.Prelude.{◌≡◌, refl, ◌≢◌, ℕ, ◌<◌, Bool, true, false, not, ◌&&◌, ◌||◌, List, [], ◌∷◌, ◌++◌, length, get_or, set, replicate, eqb}
use Rattle.std.proofs.Common.{sym, ap, ap₂, ◌∙◌, length-set, get_or-set_same, get_or-set_other, eqb-true}
use Rattle.std.proofs.Math.Bool.{and_assoc, and-true, or-false}
use Rattle.std.proofs.lemmas.List.{length-replicate, get_or-replicate}
use Rattle.std.proofs.lemmas.Bool.{eqb-false}
use Rattle.lists.specs.Lists.{all, elem, distinct}
use Rattle.lists.specs.ListLaws.{All, done, ◌also◌, head_of_all, tail_of}

-- as many marks as the largest disc has sectors
abbrev pub no_marks : List ℕ
no_marks = replicate 800 0

-- the marks m, and each of ns marked
unfoldable pub marked : List ℕ → List ℕ → List ℕ
marked m [] = m
marked m (n ∷ ns) = marked (set m n 1) ns

-- no sector of ns is marked in m, and none stands there twice
unfoldable pub fresh : List ℕ → List ℕ → Bool
fresh m [] = true
fresh m (n ∷ ns) = eqb (get_or m n 0) 0 && fresh (set m n 1) ns

-- sector n has no mark
abbrev pub clear : List ℕ → ℕ → Bool
clear m n = eqb (get_or m n 0) 0

-- every sector of the list has a mark
abbrev pub Below : ℕ → List ℕ → Type 0
Below N ns = All (λ n. n < N) ns

-- ---- lists one after the other

pub marked_join : (m ns ks : List ℕ) → marked m (ns ++ ks) ≡ marked (marked m ns) ks
unfolding marked
marked_join m [] ks = refl
marked_join m (n ∷ ns) ks = marked_join (set m n 1) ns ks

pub fresh_join : (m ns ks : List ℕ) → fresh m (ns ++ ks) ≡ fresh m ns && fresh (marked m ns) ks
unfolding fresh marked
fresh_join m [] ks = refl
fresh_join m (n ∷ ns) ks =
    ap (λ (b : Bool). clear m n && b) (fresh_join (set m n 1) ns ks)
    ∙ sym (and_assoc (clear m n) (fresh (set m n 1) ns) (fresh (marked (set m n 1) ns) ks))

-- ---- what one more mark changes

-- b tells whether n and k are the same
clear_set : (m : List ℕ) (n k : ℕ) (b : Bool) → n < length m → (b ≡ true → n ≡ k) → (b ≡ false → n ≢ k) → clear (set m n 1) k ≡ not b && clear m k
clear_set m n k true h same other = ap (clear (set m n 1)) (sym (same refl)) ∙ ap (λ (v : ℕ). eqb v 0) (get_or-set_same m n 1 0 h)
clear_set m n k false h same other = ap (λ (v : ℕ). eqb v 0) (get_or-set_other m n k 1 0 (λ e. other refl (sym e)))

all_clear_set : (m ns : List ℕ) (n : ℕ) → n < length m → all (clear (set m n 1)) ns ≡ not (elem n ns) && all (clear m) ns
all_clear_set m [] n h = refl
all_clear_set m (k ∷ ns) n h =
    ap₂ ◌&&◌ (clear_set m n k (eqb n k) h (eqb-true n k) (eqb-false n k)) (all_clear_set m ns n h)
    ∙ regroup (eqb n k) (clear m k) (elem n ns) (all (clear m) ns)
  where
    regroup : (a b c e : Bool) → not a && b && (not c && e) ≡ not (a || c) && (b && e)
    regroup true b c e = refl
    regroup false true c e = refl
    regroup false false true e = refl
    regroup false false false e = refl

-- ---- a list that is fresh, and what is marked

fresh_is : (m ns : List ℕ) → Below (length m) ns → fresh m ns ≡ distinct ns && all (clear m) ns
unfolding fresh
fresh_is m [] h = refl
fresh_is m (n ∷ ns) h =
    ap (λ (b : Bool). clear m n && b)
    (fresh_is (set m n 1) ns (rw length-set (tail_of h)) ∙ ap (λ (b : Bool). distinct ns && b) (all_clear_set m ns n (head_of_all h)))
    ∙ regroup (clear m n) (distinct ns) (elem n ns) (all (clear m) ns)
  where
    regroup : (a b c e : Bool) → a && (b && (not c && e)) ≡ not c && b && (a && e)
    regroup true true true e = refl
    regroup true true false e = refl
    regroup true false true e = refl
    regroup true false false e = refl
    regroup false true true e = refl
    regroup false true false e = refl
    regroup false false true e = refl
    regroup false false false e = refl

-- a sector has a mark: it had one, or it is in the list
marked_at : (m ns : List ℕ) (k : ℕ) → Below (length m) ns → not (clear (marked m ns) k) ≡ not (clear m k) || elem k ns
unfolding marked
marked_at m [] k h = sym (or-false (not (clear m k)))
marked_at m (n ∷ ns) k h =
    marked_at (set m n 1) ns k (rw length-set (tail_of h))
    ∙ ap (λ (b : Bool). not b || elem k ns) (clear_set m n k (eqb k n) (head_of_all h) (λ e. sym (eqb-true k n e)) (λ e q. eqb-false k n e (sym q)))
    ∙ regroup (eqb k n) (clear m k) (elem k ns)
  where
    regroup : (a b c : Bool) → not (not a && b) || c ≡ not b || (a || c)
    regroup true true c = refl
    regroup true false c = refl
    regroup false true c = refl
    regroup false false c = refl

-- ---- from no marks

all_clear : (N : ℕ) {ns : List ℕ} → Below N ns → all (clear (replicate N 0)) ns ≡ true
all_clear N done = refl
all_clear N (◌also◌ {x = n} h hs) = ap₂ ◌&&◌ (ap (λ (v : ℕ). eqb v 0) (get_or-replicate N n 0 0 h)) (all_clear N hs)

pub fresh_none : (N : ℕ) {ns : List ℕ} → Below N ns → fresh (replicate N 0) ns ≡ distinct ns
fresh_none N {ns} h =
    fresh_is (replicate N 0) ns (rw length-replicate h)
    ∙ ap (λ (b : Bool). distinct ns && b) (all_clear N h)
    ∙ and-true (distinct ns)

pub marked_none : (N : ℕ) {ns : List ℕ} (k : ℕ) → k < N → Below N ns → not (clear (marked (replicate N 0) ns) k) ≡ elem k ns
marked_none N {ns} k l h =
    marked_at (replicate N 0) ns k (rw length-replicate h)
    ∙ ap (λ (v : ℕ). not (eqb v 0) || elem k ns) (get_or-replicate N k 0 0 l)
