-- Laws of sheets and sums, as the code meets them.
-- Assumes nothing.
use Rattle.std.specs.declared.option.Option.{Option}
use Rattle.std.specs.declared.result.Result.{Result}
use Rattle.std.proofs.Common.{◌≡◌, ◌≢◌, ℕ, ◌+◌, ◌-◌, ◌<◌, ◌≤◌, Bool, true, false, is_err, zero, suc, cond, eqb, leb}
use Rattle.std.proofs.Common.{List, [], ◌∷◌, length, get_or, set, take, drop, Ok, Err, Some, None, refl, sym, ap, ◌∙◌, arith, length-set, get_or-set_same}
use Rattle.std.proofs.Math.Bool.{and-false, and-true}
use Rattle.std.proofs.Math.Option as math
use Rattle.std.proofs.Math.Option.{none, some}
use Rattle.std.proofs.lemmas.Bool.{false≢true}
use Rattle.std.proofs.lemmas.List.Recursion.{and_fails_at, and_set}
use Rattle.std.proofs.lemmas.Bool.Decides.{nat_tests}
use Rattle.std.specs.Str.{bytes_eq}
use borrow.Author.Tests.{lt-leb, le-leb, eq-eqb, ne_eqb}
use Rattle.format.specs.Refusals.{TOTAL, refused, ok, ◌>>=◌, ◌>>◌, refuse◌if◌, ◌or_refuse◌, number, value_or}
use Rattle.lists.specs.Lists.{byte, word_at}
use Rattle.refusals.specs.Meaning.{reason, number_of_answer, number_of_refusal}
use Rattle.refusals.specs.declared.Refusal.{Refusal}
use Rattle.refusals.specs.declared.Refusal.TheVariants.{BadSheet}
use Rattle.totals.specs.declared.Credit as code
use Rattle.totals.specs.Totals.{Credit, is_worker, and_then, credits_of, add_credit, add_credits}
use Rattle.totals.specs.Totals.{within, max_total, workers, SheetAnswer, add_sheet, after_sheet}
use Rattle.totals.specs.Meaning.{said, record_of, read_front, end_of, sheet_check, Running, tallied, too_many, told}

-- ---- a record

pub worker_range : (w : ℕ) → is_worker w ≡ true → (1 ≤ w) × (w ≤ workers)
worker_range w h = (grind (arith, nat_tests), grind (arith, nat_tests))

-- what is read, by the tests of its kind and its worker
abbrev read_as : (c : code.Credit) (one is two : Bool) → Result (Option code.Credit) Refusal
read_as c one is two = cond one (cond is (Ok (Some c)) (Err BadSheet)) (cond two (Ok None) (Err BadSheet))

bad_read : (c : code.Credit) (one is two : Bool) (e : Refusal) → read_as c one is two ≡ Err e → e ≡ BadSheet
bad_read c true true two e h = cc
bad_read c true false two e h = cc
bad_read c false is true e h = cc
bad_read c false is false e h = cc

good_read : (c d : code.Credit) (one is two : Bool) → read_as c one is two ≡ Ok (Some d) → (c ≡ d) × (is ≡ true)
good_read c d true true two h = (cc, refl)
good_read c d true false two h = cc
good_read c d false is true h = cc
good_read c d false is false h = cc

front_read : (c : code.Credit) (one is two : Bool) (cs : math.Option (List Credit)) →
    cond one (cond is (and_then (said c) cs) none) (cond two cs none) ≡ read_front (read_as c one is two) cs
front_read c true true two cs = refl
front_read c true false two cs = refl
front_read c false is true cs = refl
front_read c false is false cs = refl

module _ (r : List ℕ) where
  pub bad_record : (e : Refusal) → record_of r ≡ Err e → e ≡ BadSheet
  bad_record e is = bad_read _ (eqb (byte r 0) 1) (is_worker (word_at r 1)) (eqb (byte r 0) 2) e is

  pub known_worker : (c : code.Credit) → record_of r ≡ Ok (Some c) → is_worker c.worker ≡ true
  known_worker c is =
      let g = good_read _ c (eqb (byte r 0) 1) (is_worker (word_at r 1)) (eqb (byte r 0) 2) is in
      ap (λ (c : code.Credit). is_worker c.worker) (sym g.0) ∙ g.1

-- ---- totals within the limit

-- totals never fall
within_set : (ts : List ℕ) (i n : ℕ) → within (set ts i (get_or ts i 0 + n)) ≡ true → within ts ≡ true
within_set [] i n w = refl
within_set (t ∷ ts) zero n w = grind (arith, nat_tests)
within_set (t ∷ ts) (suc i) n w = grind (arith, nat_tests, within_set ts i n)

within_before : (cs : List Credit) (ts : List ℕ) → within (add_credits cs ts) ≡ true → within ts ≡ true
unfolding add_credits add_credit
within_before [] ts w = w
within_before (c ∷ cs) ts w = within_set ts (c.worker - 1) c.pieces (within_before cs (add_credit c ts) w)

-- a total that is too large stays so
over_after : (cs : List Credit) (ts : List ℕ) → within ts ≡ false → within (add_credits cs ts) ≡ false
over_after cs ts o = by (within (add_credits cs ts)) refl
  where
    by : (b : Bool) → within (add_credits cs ts) ≡ b → b ≡ false
    by true w = absurd (false≢true (sym o ∙ within_before cs ts w))
    by false w = refl

tallied_over : (cs : math.Option (List Credit)) (ts sums : List ℕ) → within ts ≡ false → tallied cs ts ≡ told (too_many cs) sums
unfolding tallied refuse◌if◌ ◌>>◌
tallied_over none ts sums o = refl
tallied_over (some cs) ts sums o = simp (over_after cs ts o)

-- ---- a credit added to sums

pub credit_long : (c : Credit) (ts : List ℕ) → length (add_credit c ts) ≡ length ts
unfolding add_credit
credit_long c ts = length-set ts (c.worker - 1) (get_or ts (c.worker - 1) 0 + c.pieces)

tallied_then : (c : Credit) (cs : math.Option (List Credit)) (sums : List ℕ) → tallied (and_then c cs) sums ≡ tallied cs (add_credit c sums)
unfolding tallied add_credits
tallied_then c none sums = refl
tallied_then c (some cs) sums = refl

module _ (c : Credit) (was : List ℕ) where
  one_credit : (b : Bool) → within (add_credit c was) ≡ b → tallied (some (c ∷ [])) was ≡ cond b (ok (add_credit c was)) (refused TOTAL)
  unfolding tallied add_credits refuse◌if◌ ◌>>◌
  one_credit true w = simp w
  one_credit false w = simp w

  module _ (running : Running was) where
    pub credit_fits : get_or was (c.worker - 1) 0 + c.pieces ≤ max_total → tallied (some (c ∷ [])) was ≡ ok (add_credit c was)
    unfolding add_credit
    credit_fits l = one_credit true (and_set within (λ t. leb t max_total) refl (λ t ts. refl) was (c.worker - 1) _ (le-leb _ max_total l) running.low)

    pub credit_over : is_worker c.worker ≡ true → max_total < get_or was (c.worker - 1) 0 + c.pieces → tallied (some (c ∷ [])) was ≡ refused TOTAL
    unfolding add_credit
    credit_over is l =
        let range = worker_range c.worker is in
        let i : ℕ = c.worker - 1 in
        let v : ℕ = get_or was i 0 + c.pieces in
        let fits : i < length was = omega (arith, running.long) in
        one_credit false (and_fails_at within (λ t. leb t max_total) refl (λ t ts. refl) (set was i v) i 0
        (omega (arith, credit_long c was)) (rw (get_or-set_same was i v 0 fits) (lt-leb v max_total l)))

-- what a credit did
module _ (c : Credit) (was sums : List ℕ) where
  added : (r : Result (Unit {0}) Refusal) → told r sums ≡ tallied (some (c ∷ [])) was → is_err r ≡ false →
      (within (add_credit c was) ≡ true) × (sums ≡ add_credit c was)
  added (Err e) does n = cc
  added (Ok u) does n = by (within (add_credit c was)) refl
    where
      by : (b : Bool) → within (add_credit c was) ≡ b → (b ≡ true) × (sums ≡ add_credit c was)
      by true w = (refl, let o = does ∙ one_credit c was true w in cc)
      by false w = let o = does ∙ one_credit c was false w in cc

  left_out : (r : Result (Unit {0}) Refusal) → told r sums ≡ tallied (some (c ∷ [])) was → is_err r ≡ true → within (add_credit c was) ≡ false
  left_out (Ok u) does n = cc
  left_out (Err e) does n = by (within (add_credit c was)) refl
    where
      by : (b : Bool) → within (add_credit c was) ≡ b → b ≡ false
      by true w = let o = does ∙ one_credit c was true w in cc
      by false w = refl

  pub still_running : (r : Result (Unit {0}) Refusal) → told r sums ≡ tallied (some (c ∷ [])) was → Running was → is_err r ≡ false → Running sums
  still_running r does running n =
      let did = added r does n in rw did.1 (record { long = credit_long c was ∙ running.long; low = did.0 })

-- ---- a sheet from its front on

record_first : (s : List ℕ) → 5 ≤ length s → credits_of s ≡ read_front (record_of (take 5 s)) (credits_of (drop 5 s))
unfolding credits_of
record_first [] h = absurd (omega arith)
record_first (k ∷ []) h = absurd (omega arith)
record_first (k ∷ a ∷ []) h = absurd (omega arith)
record_first (k ∷ a ∷ b ∷ []) h = absurd (omega arith)
record_first (k ∷ a ∷ b ∷ c ∷ []) h = absurd (omega arith)
record_first (k ∷ a ∷ b ∷ c ∷ d ∷ rest) h = front_read _ (eqb k 1) (is_worker (word_at (a ∷ b ∷ []) 0)) (eqb k 2) (credits_of rest)

end_first : (bs : List ℕ) → length bs < 5 → credits_of bs ≡ cond (bytes_eq bs (0 ∷ [])) (some []) none
unfolding credits_of
end_first [] h = refl
end_first (k ∷ []) h = simp (and-true (eqb k 0))
end_first (k ∷ a ∷ []) h = simp (and-false (eqb k 0))
end_first (k ∷ a ∷ b ∷ []) h = simp (and-false (eqb k 0))
end_first (k ∷ a ∷ b ∷ c ∷ []) h = simp (and-false (eqb k 0))
end_first (k ∷ a ∷ b ∷ c ∷ d ∷ rest) h = absurd (omega arith)

module _ (bs : List ℕ) (h : length bs < 5) where
  pub check_end : end_of bs ≡ sheet_check (credits_of bs)
  check_end = rw (end_first bs h) (by (bytes_eq bs (0 ∷ [])))
    where
      by : (b : Bool) → cond b (Ok tt) (Err BadSheet) ≡ sheet_check (cond b (some []) none)
      by true = refl
      by false = refl

  pub tally_end : (sums : List ℕ) → Running sums → told (end_of bs) sums ≡ tallied (credits_of bs) sums
  unfolding tallied add_credits refuse◌if◌ ◌>>◌
  tally_end sums running = rw (end_first bs h) (by (bytes_eq bs (0 ∷ [])))
    where
      by : (b : Bool) → told (cond b (Ok tt) (Err BadSheet)) sums ≡ tallied (cond b (some []) none) sums
      by true = simp running.low
      by false = refl

-- the bytes r and those after them
module _ (s r after : List ℕ) (cut : (r ≡ take 5 s) × (after ≡ drop 5 s) × (length after + 5 ≡ length s)) where
  cut_first : (o : Result (Option code.Credit) Refusal) → record_of r ≡ o → credits_of s ≡ read_front o (credits_of after)
  cut_first o is = let e = record_first s (omega arith) in let f = cut.0 in let g = cut.1 in cc

  module _ (e : Refusal) (is : record_of r ≡ Err e) where
    pub check_bad : Err e ≡ sheet_check (credits_of s)
    check_bad = simp (cut_first (Err e) is, bad_record r e is)

    pub tally_bad : (sums : List ℕ) → refused (reason e) ≡ tallied (credits_of s) sums
    unfolding tallied
    tally_bad sums = simp (cut_first (Err e) is, bad_record r e is)

  pub check_on : (o : Option code.Credit) → record_of r ≡ Ok o → sheet_check (credits_of after) ≡ sheet_check (credits_of s)
  check_on o is = rw (cut_first (Ok o) is) (by o (credits_of after))
    where
      by : (o : Option code.Credit) (cs : math.Option (List Credit)) → sheet_check cs ≡ sheet_check (read_front (Ok o) cs)
      by None cs = refl
      by (Some c) none = refl
      by (Some c) (some cs) = refl

  pub tally_date : record_of r ≡ Ok None → (sums : List ℕ) → tallied (credits_of after) sums ≡ tallied (credits_of s) sums
  tally_date is sums = simp (cut_first (Ok None) is)

  module _ (c : code.Credit) (is : record_of r ≡ Ok (Some c)) (was sums : List ℕ) (a : Result (Unit {0}) Refusal)
      (does : told a sums ≡ tallied (some (said c ∷ [])) was) where
    pub tally_on : is_err a ≡ false → tallied (credits_of after) sums ≡ tallied (credits_of s) was
    tally_on n = rw ((added (said c) was sums a does n).1, cut_first (Ok (Some c)) is) (sym (tallied_then (said c) (credits_of after) was))

    pub tally_over : is_err a ≡ true → told (too_many (credits_of after)) sums ≡ tallied (credits_of s) was
    tally_over n =
        rw (cut_first (Ok (Some c)) is)
        (sym (tallied_then (said c) (credits_of after) was ∙ tallied_over (credits_of after) _ sums (left_out (said c) was sums a does n)))

-- ---- the cases of the call

module _ (ts sheet : List ℕ) where
  pub other_table : length ts ≢ workers → ◌≡◌ {A = SheetAnswer} (record { number = 12; totals = ts }) (after_sheet ts sheet)
  unfolding after_sheet add_sheet ◌>>◌ ◌>>=◌ refuse◌if◌ ◌or_refuse◌ number value_or
  other_table h = simp (ne_eqb (length ts) workers h)

  module _ (long : length ts ≡ workers) where
    pub lent_over : within ts ≡ false →
        ◌≡◌ {A = SheetAnswer} (record { number = number_of_answer (too_many (credits_of sheet)); totals = ts }) (after_sheet ts sheet)
    unfolding after_sheet add_sheet ◌>>◌ ◌>>=◌ refuse◌if◌ ◌or_refuse◌ number value_or
    lent_over over = by (credits_of sheet) refl
      where
        by : (o : math.Option (List Credit)) → credits_of sheet ≡ o →
            ◌≡◌ {A = SheetAnswer} (record { number = number_of_answer (too_many (credits_of sheet)); totals = ts }) (after_sheet ts sheet)
        by none e = simp (eq-eqb (length ts) workers long, e)
        by (some cs) e = simp (eq-eqb (length ts) workers long, e, over)

    module _ (low : within ts ≡ true) where
      sheet_tallied : tallied (credits_of sheet) ts ≡ add_sheet ts sheet
      unfolding tallied add_sheet ◌>>◌ ◌>>=◌ refuse◌if◌ ◌or_refuse◌
      sheet_tallied = by (credits_of sheet) refl
        where
          by : (o : math.Option (List Credit)) → credits_of sheet ≡ o → tallied (credits_of sheet) ts ≡ add_sheet ts sheet
          by none e = simp (eq-eqb (length ts) workers long, e)
          by (some cs) e = simp (eq-eqb (length ts) workers long, e, low)

      pub sheet_refused : (e : Refusal) → refused (reason e) ≡ tallied (credits_of sheet) ts →
          ◌≡◌ {A = SheetAnswer} (record { number = number_of_refusal e; totals = ts }) (after_sheet ts sheet)
      unfolding after_sheet number value_or
      sheet_refused e is = simp (sym (is ∙ sheet_tallied))

      pub sheet_added : (sums : List ℕ) → ok sums ≡ tallied (credits_of sheet) ts →
          ◌≡◌ {A = SheetAnswer} (record { number = 0; totals = sums }) (after_sheet ts sheet)
      unfolding after_sheet number value_or
      sheet_added sums is = simp (sym (is ∙ sheet_tallied))

-- ---- what the functions' proofs use

pub ruleset crediting = (credit_fits, credit_over)

pub ruleset checking = (check_on, check_end)

pub ruleset tallying = (known_worker, tally_bad, tally_date, tally_on, tally_over, tally_end, still_running)

pub ruleset adding = (other_table, lent_over, sheet_refused, sheet_added)
