-- A sheet's records, and totals, by their places. The code takes records off the front now; the laws stand, though no proof cites them.
-- Assumes nothing.
use Rattle.std.proofs.Common.{◌≡◌, ℕ, ◌+◌, ◌*◌, ◌-◌, ◌<◌, ◌≤◌, Bool, true, false, zero, suc, cond, eqb, leb}
use Rattle.std.proofs.Common.{List, [], ◌∷◌, ◌++◌, length, get_or, set, take, drop, refl, sym, ap, ◌∙◌, arith, add-zero, add-one}
use Rattle.std.proofs.Common.{length-drop, get_or-drop, drop-drop, take-suc, take-suc-set}
use Rattle.std.proofs.Math.Bool.{and-false}
use Rattle.std.proofs.Math.Option.{Option, none, some}
use Rattle.std.proofs.lemmas.Bool.{false≢true}
use borrow.Author.Tests.{lt-leb, le-leb, leb-true, eqb-true, ne_eqb}
use Rattle.format.specs.Refusals.{BAD-SHEET, refused, ok, ◌>>◌, refuse◌if◌}
use Rattle.lists.specs.Lists.{is_some, byte, word_at}
use Rattle.lists.specs.ListLaws.{and_true, true_and, all_true, all_get_d}
use Rattle.totals.specs.Totals.{Credit, credit_of, is_worker, and_then, in_front, credits_of, add_credits, within, max_total, workers}
use Rattle.totals.specs.Meaning.{Running, tallied}
use Rattle.totals.proofs.Laws.{worker_range}

-- ---- the record at a position

-- its body
abbrev pub body_at : List ℕ → ℕ → List ℕ
body_at s k = byte s (k + 1) ∷ byte s (k + 2) ∷ byte s (k + 3) ∷ byte s (k + 4) ∷ []

-- one that a sheet may have
abbrev pub is_record : (kind : ℕ) (body : List ℕ) → Bool
is_record kind body = cond (eqb kind 1) (is_worker (credit_of body).worker) (eqb kind 2)

front_record : (s : List ℕ) → 5 ≤ length s → credits_of s ≡ in_front (byte s 0) (body_at s 0) (credits_of (drop 5 s))
unfolding credits_of
front_record [] h = absurd (omega arith)
front_record (k ∷ []) h = absurd (omega arith)
front_record (k ∷ a ∷ []) h = absurd (omega arith)
front_record (k ∷ a ∷ b ∷ []) h = absurd (omega arith)
front_record (k ∷ a ∷ b ∷ c ∷ []) h = absurd (omega arith)
front_record (k ∷ a ∷ b ∷ c ∷ d ∷ rest) h = refl

front_cut : (s : List ℕ) → length s < 5 → (length s ≡ 1 → ⊥) → none ≡ credits_of s
unfolding credits_of
front_cut [] h n = refl
front_cut (k ∷ []) h n = absurd (n refl)
front_cut (k ∷ a ∷ []) h n = refl
front_cut (k ∷ a ∷ b ∷ []) h n = refl
front_cut (k ∷ a ∷ b ∷ c ∷ []) h n = refl
front_cut (k ∷ a ∷ b ∷ c ∷ d ∷ rest) h n = absurd (omega arith)

front_end : (s : List ℕ) → length s ≡ 1 → cond (eqb (byte s 0) 0) (some []) none ≡ credits_of s
unfolding credits_of
front_end [] h = absurd (omega arith)
front_end (k ∷ []) h = refl
front_end (k ∷ a ∷ rest) h = absurd (omega arith)

module _ (s : List ℕ) (k : ℕ) where
  pub record_at : k + 5 ≤ length s → credits_of (drop k s) ≡ in_front (byte s k) (body_at s k) (credits_of (drop (k + 5) s))
  record_at h = front_record (drop k s) (omega (arith, length-drop k s)) ∙ simp (get_or-drop, drop-drop, add-zero) refl

  pub cut_at : length s - k < 5 → (length s - k ≡ 1 → ⊥) → none ≡ credits_of (drop k s)
  cut_at h n = front_cut (drop k s) (omega (arith, length-drop k s)) (λ e. n (sym (length-drop k s) ∙ e))

  pub end_at : length s - k ≡ 1 → cond (eqb (byte s k) 0) (some []) none ≡ credits_of (drop k s)
  end_at h =
      let here : byte (drop k s) 0 ≡ byte s k = simp (get_or-drop, add-zero) refl in
      ap (λ (b : ℕ). cond (eqb b 0) (some []) none) (sym here) ∙ front_end (drop k s) (length-drop k s ∙ h)

  -- its two numbers, where they stand in the sheet
  worker_at : word_at s (k + 1) ≡ (credit_of (body_at s k)).worker
  worker_at = let e : k + 1 + 1 ≡ k + 2 = omega arith in ap (λ (j : ℕ). byte s (k + 1) + 256 * byte s j) e

-- ---- a record that a sheet may have, and one that it may not

good_front : (kind : ℕ) (body : List ℕ) (cs : Option (List Credit)) → is_record kind body ≡ true → is_some (in_front kind body cs) ≡ is_some cs
good_front kind body cs h = by (eqb kind 1) (is_worker (credit_of body).worker) (eqb kind 2) cs h
  where
    by : (one is two : Bool) (cs : Option (List Credit)) → cond one is two ≡ true →
        is_some (cond one (cond is (and_then (credit_of body) cs) none) (cond two cs none)) ≡ is_some cs
    by true true two none h = refl
    by true true two (some cs) h = refl
    by true false two cs h = absurd (false≢true h)
    by false is true cs h = refl
    by false is false cs h = absurd (false≢true h)

bad_front : (kind : ℕ) (body : List ℕ) (cs : Option (List Credit)) → is_record kind body ≡ false → in_front kind body cs ≡ none
bad_front kind body cs h = by (eqb kind 1) (is_worker (credit_of body).worker) (eqb kind 2) h
  where
    by : (one is two : Bool) → cond one is two ≡ false → cond one (cond is (and_then (credit_of body) cs) none) (cond two cs none) ≡ none
    by true true two h = absurd (false≢true (sym h))
    by true false two h = refl
    by false is true h = absurd (false≢true (sym h))
    by false is false h = refl

module _ (s : List ℕ) (k : ℕ) where
  pub date_record : byte s k ≡ 2 → true ≡ is_record (byte s k) (body_at s k)
  date_record is = simp is

  pub other_record : (byte s k ≡ 2 → ⊥) → (byte s k ≡ 1 → ⊥) → false ≡ is_record (byte s k) (body_at s k)
  other_record n m = simp (ne_eqb (byte s k) 1 m, ne_eqb (byte s k) 2 n)

  module _ (is : byte s k ≡ 1) where
    pub low_record : word_at s (k + 1) < 1 → false ≡ is_record (byte s k) (body_at s k)
    low_record h = simp (is, lt-leb 1 (credit_of (body_at s k)).worker (omega (arith, worker_at s k)))

    pub pieces_record : 1 ≤ word_at s (k + 1) → leb (word_at s (k + 1)) workers ≡ is_record (byte s k) (body_at s k)
    pieces_record l = simp (is, le-leb 1 (credit_of (body_at s k)).worker (omega (arith, worker_at s k)), worker_at s k)

  module _ (h : k + 5 ≤ length s) where
    pub rest_on : is_record (byte s k) (body_at s k) ≡ true → is_some (credits_of (drop (k + 5) s)) ≡ is_some (credits_of (drop k s))
    rest_on good = sym (ap is_some (record_at s k h) ∙ good_front (byte s k) (body_at s k) (credits_of (drop (k + 5) s)) good)

    pub record_bad : is_record (byte s k) (body_at s k) ≡ false → none ≡ credits_of (drop k s)
    record_bad bad = sym (record_at s k h ∙ bad_front (byte s k) (body_at s k) (credits_of (drop (k + 5) s)) bad)

  module _ (is : is_record (byte s k) (body_at s k) ≡ true) (other : byte s k ≡ 2 → ⊥) where
    kind_1 : byte s k ≡ 1
    kind_1 = by (eqb (byte s k) 1) refl
      where
        by : (b : Bool) → eqb (byte s k) 1 ≡ b → byte s k ≡ 1
        by true e = eqb-true (byte s k) 1 e
        by false e =
            let no : is_record (byte s k) (body_at s k) ≡ false = simp (e, ne_eqb (byte s k) 2 other) in
            absurd (false≢true (sym no ∙ is))

    pub worker_in : (1 ≤ word_at s (k + 1)) × (word_at s (k + 1) ≤ workers)
    worker_in =
        let known : is_worker (credit_of (body_at s k)).worker ≡ true = sym (ap (λ (n : ℕ). is_record n (body_at s k)) kind_1) ∙ is in
        let range = worker_range (credit_of (body_at s k)).worker known in
        (omega (arith, worker_at s k), omega (arith, worker_at s k))

-- what a test of the end says
pub end_some : (r : Bool) (cs : Option (List Credit)) → cond r (some []) none ≡ cs → r ≡ is_some cs
end_some true cs e = ap is_some e
end_some false cs e = ap is_some e

-- ---- what is left of a sheet from a position on, added to sums

module _ (s : List ℕ) (k : ℕ) (was : List ℕ) where
  pub tally_bad : none ≡ credits_of (drop k s) → tallied (credits_of (drop k s)) was ≡ refused BAD-SHEET
  unfolding tallied
  tally_bad e = ap (λ (o : Option (List Credit)). tallied o was) (sym e)

  pub tally_end : Running was → some [] ≡ credits_of (drop k s) → tallied (credits_of (drop k s)) was ≡ ok was
  unfolding tallied add_credits refuse◌if◌ ◌>>◌
  tally_end running e = ap (λ (o : Option (List Credit)). tallied o was) (sym e) ∙ simp running.low

-- ---- totals by position

pub copied_one : (to from : List ℕ) (i : ℕ) → i < length from → length to ≡ length from → take i to ≡ take i from →
    take (i + 1) (set to i (get_or from i 0)) ≡ take (i + 1) from
copied_one to from i h l e =
    rw add-one (
    take-suc-set to i (get_or from i 0) (omega arith)
    ∙ ap (λ (xs : List ℕ). xs ++ (get_or from i 0 ∷ [])) e
    ∙ sym (take-suc from i 0 h)
    )

-- one of too many
pub over_at : (ts : List ℕ) (i : ℕ) → i < length ts → max_total < get_or ts i 0 → within ts ≡ false
over_at [] i h o = absurd (omega arith)
over_at (t ∷ ts) zero h o = simp (lt-leb t max_total o)
over_at (t ∷ ts) (suc i) h o = simp (over_at ts i (omega arith) o, and-false (leb t max_total))

-- those before a position, and the one there
pub within_one : (ts : List ℕ) (i : ℕ) → i < length ts → within (take i ts) ≡ true → get_or ts i 0 ≤ max_total → within (take (i + 1) ts) ≡ true
within_one [] i h w l = absurd (omega arith)
within_one (t ∷ ts) zero h w l = simp (le-leb t max_total l)
within_one (t ∷ ts) (suc i) h w l =
    let both = and_true (leb t max_total) (within (take i ts)) w in
    let n : suc i + 1 ≡ suc (i + 1) = omega arith in
    ap (λ (n : ℕ). within (take n (t ∷ ts))) n ∙ true_and both.0 (within_one ts i (omega arith) both.1 l)

pub low_at : (ts : List ℕ) → within ts ≡ true → (i : ℕ) → i < length ts → get_or ts i 0 ≤ max_total
low_at ts w i h = leb-true (get_or ts i 0) max_total (all_get_d {P = λ t. leb t max_total ≡ true} i 0 (all_true ts w) h)
