-- A table of buckets that counts names to 2, and what it tells: where a bucket has a count below 2, its name is the only one there.
-- Assumes nothing.
use Rattle.std.specs.Prelude.{◌≡◌, ◌≢◌, Bool, length, eqb, ltb}
use Rattle.std.proofs.Math.Path.{refl, sym, ap}
use Rattle.std.proofs.Common.{◌∙◌, subst, arith, eq-eqb, ne_eqb, lt-ltb, le-ltb}
use Prim.Native.Nat.{ℕ, zero, suc, ◌+◌, ◌*◌, ◌%◌, ◌≤◌, ◌<◌}
use Rattle.std.proofs.Math.Decide.{ℕ_discrete}
use Rattle.std.proofs.Math.Bool.{true, false}
use mathlib.Core.List.{List, [], ◌∷◌, ◌++◌, map, append_assoc, append-nil, map-append}
use Rattle.std.proofs.Math.ListN.{set, length-set}
use Rattle.std.proofs.Math.Seq.{append_snoc, get_or-set_same, get_or-set_other}
use Rattle.lists.specs.Lists.{byte, same, times}
use Rattle.lists.specs.ListLaws.{times_none, times_join, times_here, times_past, same_true}
use Rattle.format.specs.Geometry.{Disc}
use Rattle.format.specs.Layout.{slots_each, Slot, free_slot, in_use, name_of, slot_at}
use Rattle.slots.specs.InOrder.{use_free, use_used, use_next, slots_from}
use Rattle.fsck_names.specs.Differ.{named, apart, apart_later}

-- ---- the bucket of a name

-- nine bytes, each times a weight
unfoldable pub spread : ℕ → ℕ → ℕ → ℕ → ℕ → ℕ → ℕ → ℕ → ℕ → ℕ
spread a b c d e f g h i = a * 2129 + b * 4943 + c * 12937 + d * 1953 + e * 1727 + f * 16113 + (g * 9123 + h * 10145 + i * 6561)

abbrev pub choose : Bool → ℕ → ℕ → ℕ
choose true a b = a
choose false a b = b

-- in a table of 16384 buckets; a table of another size has one
unfoldable pub bucket_of : ℕ → List ℕ → ℕ
bucket_of size name =
    choose (eqb size 16384)
    (spread (byte name 0) (byte name 1) (byte name 2) (byte name 3) (byte name 4) (byte name 5) (byte name 6) (byte name 7) (byte name 8) % 16384)
    0

abbrev pub bucket : ℕ → Slot → ℕ
bucket size s = bucket_of size (name_of s)

-- the buckets of entries
unfoldable pub buckets_of : ℕ → List Slot → List ℕ
buckets_of size es = map (bucket size) es

-- ---- the count

-- one more, up to 2
unfoldable pub more : ℕ → ℕ
more n = choose (ltb n 2) (n + 1) n

-- the table, with entry s counted
unfoldable pub bumped : ℕ → List ℕ → Slot → List ℕ
bumped size t s = set t (bucket size s) (more (byte t (bucket size s)))

-- the table, with the entries counted
unfoldable pub tallied : ℕ → List ℕ → List Slot → List ℕ
tallied size t [] = t
tallied size t (s ∷ es) = tallied size (bumped size t s) es

-- ---- laws of the bucket

-- in the table of many buckets
pub bucket_many : (size : ℕ) (name : List ℕ) → size ≡ 16384
    → spread (byte name 0) (byte name 1) (byte name 2) (byte name 3) (byte name 4) (byte name 5) (byte name 6) (byte name 7) (byte name 8) % 16384
    ≡ bucket_of size name
unfolding bucket_of
bucket_many size name e = simp (eq-eqb size 16384 e)

pub bucket_one : (size : ℕ) (name : List ℕ) → size ≢ 16384 → 0 ≡ bucket_of size name
unfolding bucket_of
bucket_one size name e = simp (ne_eqb size 16384 e)

-- ---- laws of the count

pub more_low : (n : ℕ) → n < 2 → more n ≡ n + 1
unfolding more
more_low n h = simp (lt-ltb n 2 h)

pub more_high : (n : ℕ) → 2 ≤ n → more n ≡ n
unfolding more
more_high n h = simp (le-ltb n 2 h)

more_under : (n : ℕ) → more n < 2 → (n < 2) × (more n ≡ n + 1)
more_under zero h = (omega arith, more_low 0 (omega arith))
more_under (suc zero) h = (omega arith, more_low 1 (omega arith))
more_under (suc (suc n)) h = absurd (omega (arith, more_high (suc (suc n)) (omega arith)))

tally_join : (size : ℕ) (t : List ℕ) (es fs : List Slot) → tallied size t (es ++ fs) ≡ tallied size (tallied size t es) fs
unfolding tallied
tally_join size t [] fs = refl
tally_join size t (s ∷ es) fs = tally_join size (bumped size t s) es fs

pub tally_long : (size : ℕ) (t : List ℕ) (es : List Slot) → length (tallied size t es) ≡ length t
unfolding tallied bumped
tally_long size t [] = refl
tally_long size t (s ∷ es) = tally_long size (bumped size t s) es ∙ length-set t _ _

-- one slot
module _ (size : ℕ) (t : List ℕ) (s : Slot) where
  pub tally_free : free_slot s ≡ true → t ≡ tallied size t (in_use (s ∷ []))
  unfolding tallied
  tally_free e = sym (ap (tallied size t) (use_free s e))

  pub tally_used : free_slot s ≡ false → (k : ℕ) {v : ℕ} → k ≡ bucket_of size (name_of s) → v ≡ more (byte t k) → set t k v ≡ tallied size t (in_use (s ∷ []))
  unfolding tallied bumped
  tally_used u k p q = ap (set t k) q ∙ ap (λ (j : ℕ). set t j (more (byte t j))) p ∙ sym (ap (tallied size t) (use_used s u))

-- a turn of a loop: L is what is left, es what this turn takes and fs what it leaves
module _ (size : ℕ) (t : List ℕ) {L : List Slot} {u : List ℕ} (i : tallied size t L ≡ u) where
  pub tally_over : L ≡ [] → t ≡ u
  unfolding tallied
  tally_over e = ap (tallied size t) (sym e) ∙ i

  pub tally_next : (es fs : List Slot) {v : List ℕ} → L ≡ es ++ fs → v ≡ tallied size t es → tallied size v fs ≡ u
  tally_next es fs h e = ap (λ (x : List ℕ). tallied size x fs) e ∙ sym (tally_join size t es fs) ∙ ap (tallied size t) (sym h) ∙ i

-- ---- what the table tells

-- where a bucket has a count below 2, no more of the entries fall into it
pub record Covers (t : List ℕ) (es : List Slot) : Type 0 where
  pub some : 0 < length t
  pub counts : (k : ℕ) → k < length t → byte t k < 2 → times k (buckets_of (length t) es) ≤ byte t k

covers_none : (t : List ℕ) → 0 < length t → Covers t []
unfolding buckets_of
covers_none t h = record { some = h; counts = λ k l m. omega (arith, times_none k) }

-- every bucket counts as shared
pub covers_two : (es : List Slot) → Covers (2 ∷ []) es
covers_two es = record { some = omega arith; counts = at }
  where
    at : (k : ℕ) → k < 1 → byte (2 ∷ []) k < 2 → times k (buckets_of 1 es) ≤ byte (2 ∷ []) k
    at zero h l = absurd (omega arith)
    at (suc k) h l = absurd (omega arith)

buckets_join : (size k : ℕ) (es fs : List Slot) → times k (buckets_of size (es ++ fs)) ≡ times k (buckets_of size es) + times k (buckets_of size fs)
unfolding buckets_of
buckets_join size k es fs = ap (times k) (map-append (bucket size) es fs) ∙ times_join k (buckets_of size es) (buckets_of size fs)

-- one more entry is counted
module _ {t : List ℕ} {fs : List Slot} (cov : Covers t fs) (s : Slot) where
  abbrev mine : ℕ
  mine = bucket (length t) s

  bumped_here : (k : ℕ) → k < length t → k ≡ mine → byte (bumped (length t) t s) k ≡ more (byte t k)
  unfolding bumped
  bumped_here k h e = ap (λ (j : ℕ). byte (set t j (more (byte t j))) k) (sym e) ∙ get_or-set_same t k (more (byte t k)) 0 h

  bumped_past : (k : ℕ) → k ≢ mine → byte (bumped (length t) t s) k ≡ byte t k
  unfolding bumped
  bumped_past k e = get_or-set_other t mine k (more (byte t mine)) 0 e

  one_here : (k : ℕ) → k ≡ mine → times k (buckets_of (length t) (s ∷ [])) ≡ 1
  unfolding buckets_of
  one_here k e = times_here k mine [] e ∙ ap suc (times_none k)

  one_past : (k : ℕ) → k ≢ mine → times k (buckets_of (length t) (s ∷ [])) ≡ 0
  unfolding buckets_of
  one_past k e = times_past k mine [] e ∙ times_none k

  bumped_counts : (k : ℕ) → k < length t → byte (bumped (length t) t s) k < 2 → times k (buckets_of (length t) (fs ++ s ∷ [])) ≤ byte (bumped (length t) t s) k
  bumped_counts k h l =
      elim (ℕ_discrete k mine) [
        | yes e ↦
            let low = more_under (byte t k) (rw (bumped_here k h e) at l) in
            omega (arith, buckets_join (length t) k fs (s ∷ []), one_here k e, bumped_here k h e, low, cov.counts k h low.0)
        | no e ↦
            let same_count = bumped_past k e in
            omega (arith, buckets_join (length t) k fs (s ∷ []), one_past k e, same_count, cov.counts k h (rw same_count at l))
      ]

  bumped_long : length (bumped (length t) t s) ≡ length t
  unfolding bumped
  bumped_long = length-set t _ _

  covers_bumped : Covers (bumped (length t) t s) (fs ++ s ∷ [])
  covers_bumped = record { some = rw bumped_long cov.some; counts = rw bumped_long bumped_counts }

-- the entries counted after fs
covers_more : {t : List ℕ} {fs : List Slot} → Covers t fs → (es : List Slot) → Covers (tallied (length t) t es) (fs ++ es)
unfolding tallied
covers_more {t} {fs} cov [] = rw append-nil cov
covers_more {t} {fs} cov (s ∷ es) =
    let more-counted = covers_more {t = bumped (length t) t s} {fs = fs ++ s ∷ []} (covers_bumped cov s) es in
    rw (append_snoc, bumped_long cov s) at more-counted

pub covers_tallied : (size : ℕ) (t : List ℕ) (es : List Slot) {u : List ℕ} → length t ≡ size → 0 < size → u ≡ tallied size t es → Covers u es
covers_tallied size t es {u} long h e =
    let some : 0 < length t = omega arith in
    let whole : u ≡ tallied (length t) t es = e ∙ ap (λ (n : ℕ). tallied n t es) (sym long) in
    subst (λ (x : List ℕ). Covers x es) (sym whole) (covers_more (covers_none t some) es)

-- ---- entries that are passed are left out

pub covers_as : {t : List ℕ} {es fs : List Slot} → Covers t es → es ≡ fs → Covers t fs
covers_as {t} cov e = subst (Covers t) e cov

covers_drop : {t : List ℕ} (es : List Slot) {fs : List Slot} → Covers t (es ++ fs) → Covers t fs
covers_drop {t} es {fs} cov =
    record { some = cov.some; counts = λ k l m. let all = cov.counts k l m in omega (arith, buckets_join (length t) k es fs) }

-- a directory sector, with fs after it
pub covers_sector : {t : List ℕ} {L fs : List Slot} (d : Disc) (n : ℕ) → Covers t L → L ≡ in_use (slots_from d n 0) ++ fs → Covers t fs
covers_sector d n cov e = covers_drop (in_use (slots_from d n 0)) (covers_as cov e)

-- slot i of a directory sector, and the slots after it, with rest after the sector
module _ {t : List ℕ} (d : Disc) (n i : ℕ) (rest : List Slot) (cov : Covers t (in_use (slots_from d n i) ++ rest)) (h : i < slots_each) where
  pub covers_slot : Covers t (in_use (slot_at d n i ∷ []) ++ (in_use (slots_from d n (i + 1)) ++ rest))
  covers_slot = rw append_assoc at (rw (use_next d n i h) at cov)

  pub covers_slots : Covers t (in_use (slots_from d n (i + 1)) ++ rest)
  covers_slots = covers_drop (in_use (slot_at d n i ∷ [])) covers_slot

-- ---- an entry whose bucket has a count below 2

-- one of the same name has the same bucket
module _ (size : ℕ) (s : Slot) where
  first_named : (x : Slot) (es : List Slot) → times (bucket size s) (buckets_of size (x ∷ es)) ≡ 0 → (b : Bool) → same (name_of s) (name_of x) ≡ b → b ≡ false
  unfolding buckets_of
  first_named x es e true q =
      let one-bucket = ap (bucket_of size) (same_true (name_of s) (name_of x) q) in
      absurd (omega (arith, times_here (bucket size s) (bucket size x) (buckets_of size es) one-bucket))
  first_named x es e false q = refl

  none_named : (es : List Slot) → times (bucket size s) (buckets_of size es) ≡ 0 → named s es ≡ false
  unfolding named
  none_named [] e = refl
  none_named (x ∷ es) e =
      rw (first_named x es e (same (name_of s) (name_of x)) refl) (none_named es (omega (arith, buckets_join size (bucket size s) (x ∷ []) es)))

-- no later entry has the name
pub apart_lone : {t : List ℕ} (s : Slot) (rest : List Slot) → Covers t (in_use (s ∷ []) ++ rest) → free_slot s ≡ false
    → (k : ℕ) → k ≡ bucket_of (length t) (name_of s) → k < length t → byte t k < 2
    → true ≡ apart (in_use (s ∷ [])) rest
unfolding buckets_of named
apart_lone {t} s rest cov u k p h low =
    let all = (rw (use_used s u) at cov).counts k h low in
    let none : times k (buckets_of (length t) rest) ≡ 0 = omega (arith, times_here k (bucket (length t) s) (buckets_of (length t) rest) p) in
    apart_later s [] rest u refl refl (sym (none_named (length t) s rest (rw p at none)))
