-- The claims of Runs, proved.
-- Assumes nothing.
use Rattle.std.specs.Prelude.{◌≡◌, refl, ℕ, zero, suc, ◌+◌, ◌-◌, ◌≤◌, ◌<◌, Bool, true, false, ◌&&◌, cond, length, get_or, set, eqb}
use Rattle.std.proofs.Common.{sym, ap, subst, ◌∙◌, get_or-set_same, get_or-set_other, ext_get_or, eqb-true}
use Rattle.std.proofs.lemmas.List.{map-append}
use native.Mathlib.Omega.{arith}
use Rattle.std.proofs.Math.Option
use Rattle.std.proofs.Math.Option.{Option, none, some}
use mathlib.Core.List.{List, [], ◌∷◌, ◌++◌, map}
use Rattle.std.proofs.lemmas.Bool.{eqb-false}
use Rattle.lists.specs.Lists.{cons_if, filter, joined, sum}
use Rattle.lists.specs.ListLaws.{All, done, ◌also◌, all_any, filter_join, filter_whole, sum_join}
use Rattle.lists.specs.Permutations.{Perm, as_is, skip, swap, next}
use Rattle.format.specs.Refusals.{◌>>=◌, ◌>>◌, refuse◌if◌, ◌or_refuse◌, number, value_or}
use Rattle.totals.specs.Totals.{Credit, workers, credit_of, is_worker, and_then, in_front, credits_of, within, add_credit, add_credits, add_sheet, after_sheet}
use Rattle.totals.proofs.Laws.{worker_range, credit_long}
use Rattle.totals.specs.Runs.{handed_on, accepted, listed, credits_in, pieces_of, Growth, GrowthOfEach, OrdersEndEqual}

-- ---- a sheet's workers have totals

abbrev Known : Credit → Type 0
Known c = is_worker c.worker ≡ true

front_known : (k : ℕ) (body : List ℕ) (o : Option (List Credit)) → All Known (Option.get_or o []) → All Known (Option.get_or (in_front k body o) [])
front_known k body o h = by (eqb k 1) (is_worker (credit_of body).worker) refl (eqb k 2) o h
  where
    by : (one : Bool) (is : Bool) → is_worker (credit_of body).worker ≡ is → (two : Bool) (o : Option (List Credit)) → All Known (Option.get_or o []) →
        All Known (Option.get_or (cond one (cond is (and_then (credit_of body) o) none) (cond two o none)) [])
    by true true e two none h = done
    by true true e two (some cs) h = e also h
    by true false e two o h = done
    by false is e true o h = h
    by false is e false o h = done

all_known : (s : List ℕ) → All Known (listed s)
unfolding credits_of
all_known [] = done
all_known (k ∷ []) = by (eqb k 0)
  where
    by : (b : Bool) → All Known (Option.get_or (cond b (some []) none) [])
    by true = done
    by false = done
all_known (k ∷ a ∷ []) = done
all_known (k ∷ a ∷ b ∷ []) = done
all_known (k ∷ a ∷ b ∷ c ∷ []) = done
all_known (k ∷ a ∷ b ∷ c ∷ d ∷ rest) = front_known k (a ∷ b ∷ c ∷ d ∷ []) (credits_of rest) (all_known rest)

-- ---- what one call did

data Did (ts s : List ℕ) : Type 0 where
  stayed : eqb (after_sheet ts s).number 0 ≡ false → (after_sheet ts s).totals ≡ ts → Did ts s
  grew : length ts ≡ workers → eqb (after_sheet ts s).number 0 ≡ true → (after_sheet ts s).totals ≡ add_credits (listed s) ts → Did ts s

did : (ts s : List ℕ) → Did ts s
unfolding after_sheet add_sheet ◌>>◌ ◌>>=◌ refuse◌if◌ ◌or_refuse◌ number value_or
did ts s = by (eqb (length ts) workers) refl (credits_of s) refl
  where
    last : (cs : List Credit) → eqb (length ts) workers ≡ true → credits_of s ≡ some cs → (b : Bool) → (within ts && within (add_credits cs ts)) ≡ b → Did ts s
    last cs l e true w = grew (eqb-true (length ts) workers l) (simp (l, e, w)) (simp (l, e, w))
    last cs l e false w = stayed (simp (l, e, w)) (simp (l, e, w))

    by : (b : Bool) → eqb (length ts) workers ≡ b → (o : Option (List Credit)) → credits_of s ≡ o → Did ts s
    by false l o e = stayed (simp l) (simp l)
    by true l none e = stayed (simp (l, e)) (simp (l, e))
    by true l (some cs) e = last cs l e (within ts && within (add_credits cs ts)) refl

-- ---- one record

credits_long : (cs : List Credit) (ts : List ℕ) → length (add_credits cs ts) ≡ length ts
unfolding add_credits
credits_long [] ts = refl
credits_long (c ∷ cs) ts = credits_long cs (add_credit c ts) ∙ credit_long c ts

sum_set : (ts : List ℕ) (i n : ℕ) → i < length ts → sum (set ts i (get_or ts i 0 + n)) ≡ sum ts + n
sum_set [] i n h = absurd (omega arith)
sum_set (t ∷ ts) zero n h = omega arith
sum_set (t ∷ ts) (suc i) n h = omega (arith, sum_set ts i n (omega arith))

sum_credit : (c : Credit) (ts : List ℕ) → length ts ≡ workers → (1 ≤ c.worker) × (c.worker ≤ workers) → sum (add_credit c ts) ≡ sum ts + c.pieces
unfolding add_credit
sum_credit c ts long range = sum_set ts (c.worker - 1) c.pieces (omega arith)

-- ---- pieces

pieces_join : (cs ds : List Credit) → pieces_of (cs ++ ds) ≡ pieces_of cs + pieces_of ds
pieces_join cs ds = rw map-append (sum_join (map (λ (c : Credit). c.pieces) cs) (map (λ (c : Credit). c.pieces) ds))

module _ (p : Credit → Bool) where
  -- the pieces of those records that pass the test
  abbrev among : List Credit → ℕ
  among cs = pieces_of (filter p cs)

  among_join : (cs ds : List Credit) → among (cs ++ ds) ≡ among cs + among ds
  among_join cs ds = ap pieces_of (filter_join p cs ds) ∙ pieces_join (filter p cs) (filter p ds)

  among_sheets : (s : List ℕ) (ss : List (List ℕ)) → among (credits_in (s ∷ ss)) ≡ among (listed s) + among (credits_in ss)
  unfolding credits_in
  among_sheets s ss = among_join (listed s) (joined (map listed ss))

  -- the order of sheets does not matter
  among_perm : {one other : List (List ℕ)} → Perm one other → among (credits_in one) ≡ among (credits_in other)
  among_perm as_is = refl
  among_perm (skip {x = s} {xs = xs} {ys = ys} q) = omega (arith, among_sheets s xs, among_sheets s ys, among_perm q)
  among_perm (swap {x = s} {y = t} {xs = xs}) =
      omega (arith, among_sheets s (t ∷ xs), among_sheets t xs, among_sheets t (s ∷ xs), among_sheets s xs)
  among_perm (next q r) = among_perm q ∙ among_perm r

  -- What holds of the records of a sheet holds of a run: if each adds, to some measure of the totals, its pieces where it passes the test,
  -- the measure grows by those pieces of the accepted sheets.
  module _ (m : List ℕ → ℕ) (each : (c : Credit) (ts : List ℕ) → length ts ≡ workers → Known c → m (add_credit c ts) ≡ m ts + among (c ∷ [])) where
    all_grow : (cs : List Credit) (ts : List ℕ) → length ts ≡ workers → All Known cs → m (add_credits cs ts) ≡ m ts + among cs
    unfolding add_credits
    all_grow [] ts long known = omega arith
    all_grow (c ∷ cs) ts long (k also ks) =
        all_grow cs (add_credit c ts) (credit_long c ts ∙ long) ks ∙ omega (arith, each c ts long k, among_join (c ∷ []) cs)

    run_grows : (ts : List ℕ) (ss : List (List ℕ)) → m (handed_on ts ss) ≡ m ts + among (credits_in (accepted ts ss))
    unfolding handed_on accepted credits_in
    run_grows ts [] = omega arith
    run_grows ts (s ∷ ss) = by (did ts s) (run_grows (after_sheet ts s).totals ss)
      where
        rest : List (List ℕ)
        rest = accepted (after_sheet ts s).totals ss

        end : ℕ
        end = m (handed_on (after_sheet ts s).totals ss)

        by : Did ts s → end ≡ m (after_sheet ts s).totals + among (credits_in rest) →
            end ≡ m ts + among (credits_in (cons_if (eqb (after_sheet ts s).number 0) s rest))
        by (stayed n same) later = rw n (later ∙ ap (λ (ts : List ℕ). m ts + among (credits_in rest)) same)
        by (grew long y after) later = rw y (later ∙ omega (arith, ap m after, all_grow (listed s) ts long (all_known s), among_sheets s rest))

-- ---- all totals together

pub growth : Growth
growth ts ss =
    run_grows (λ c. true) sum each ts ss
    ∙ ap (λ (cs : List Credit). sum ts + pieces_of cs) (filter_whole (λ c. true) (all_any (credits_in (accepted ts ss)) (λ c. refl)))
  where
    each : (c : Credit) (ts : List ℕ) → length ts ≡ workers → Known c → sum (add_credit c ts) ≡ sum ts + (c.pieces + 0)
    each c ts long k = sum_credit c ts long (worker_range c.worker k) ∙ omega arith

-- ---- each worker's total

abbrev is_of : ℕ → Credit → Bool
is_of w c = eqb c.worker w

at_credit : (w : ℕ) → 1 ≤ w → (c : Credit) (ts : List ℕ) → length ts ≡ workers → Known c →
    get_or (add_credit c ts) (w - 1) 0 ≡ get_or ts (w - 1) 0 + among (is_of w) (c ∷ [])
unfolding add_credit
at_credit w is c ts long k = by (eqb c.worker w) refl
  where
    v : ℕ
    v = get_or ts (c.worker - 1) 0 + c.pieces

    by : (b : Bool) → eqb c.worker w ≡ b → get_or (add_credit c ts) (w - 1) 0 ≡ get_or ts (w - 1) 0 + among (is_of w) (c ∷ [])
    by true q =
        let range = worker_range c.worker k in
        rw q (subst (λ (w : ℕ). get_or (add_credit c ts) (w - 1) 0 ≡ get_or ts (w - 1) 0 + (c.pieces + 0)) (eqb-true c.worker w q)
        (get_or-set_same ts (c.worker - 1) v 0 (omega arith) ∙ omega arith))
    by false q =
        let range = worker_range c.worker k in
        let n : c.worker ≡ w → ⊥ = eqb-false c.worker w q in
        rw q (get_or-set_other ts (c.worker - 1) (w - 1) v 0 (λ e. n (omega arith)) ∙ omega arith)

pub growth_of_each : GrowthOfEach
growth_of_each w is ts ss = run_grows (is_of w) (λ ts. get_or ts (w - 1) 0) (at_credit w is) ts ss

-- ---- two orders

run_long : (ts : List ℕ) (ss : List (List ℕ)) → length (handed_on ts ss) ≡ length ts
unfolding handed_on
run_long ts [] = refl
run_long ts (s ∷ ss) = run_long (after_sheet ts s).totals ss ∙ by (did ts s)
  where
    by : Did ts s → length (after_sheet ts s).totals ≡ length ts
    by (stayed n same) = ap length same
    by (grew long y after) = ap length after ∙ credits_long (listed s) ts

pub orders_end_equal : OrdersEndEqual
orders_end_equal ts one other p all_one all-other =
    ext_get_or 0 (handed_on ts one) (handed_on ts other) (run_long ts one ∙ sym (run_long ts other)) at
  where
    grown : (w : ℕ) (ss : List (List ℕ)) → 1 ≤ w → accepted ts ss ≡ ss →
        get_or (handed_on ts ss) (w - 1) 0 ≡ get_or ts (w - 1) 0 + among (is_of w) (credits_in ss)
    grown w ss is all = growth_of_each w is ts ss ∙ ap (λ (ss : List (List ℕ)). get_or ts (w - 1) 0 + among (is_of w) (credits_in ss)) all

    at : (i : ℕ) → i < length (handed_on ts one) → get_or (handed_on ts one) i 0 ≡ get_or (handed_on ts other) i 0
    at i h =
        let is : 1 ≤ suc i = omega arith in
        let same : suc i - 1 ≡ i = omega arith in
        subst (λ (i : ℕ). get_or (handed_on ts one) i 0 ≡ get_or (handed_on ts other) i 0) same
        (grown (suc i) one is all_one ∙ omega (arith, among_perm (is_of (suc i)) p) ∙ sym (grown (suc i) other is all-other))
