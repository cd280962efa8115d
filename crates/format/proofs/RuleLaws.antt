-- Laws of Check: what each rule says, as facts, in both directions. A rule that asks less, or more, is refused here.
-- Assumes nothing.
use Rattle.std.specs.Prelude.{◌≡◌, refl, ℕ, zero, suc, ◌-◌, ◌≤◌, ◌<◌, ◌&&◌, true, List, ◌∷◌, map, ◌++◌, length, leb}
use Rattle.std.proofs.Math.Path.{sym, ap}
use Rattle.std.proofs.Common.{◌∙◌, arith}
use Rattle.std.proofs.Math.Bool.{not}
use Rattle.std.proofs.lemmas.Bool.{false≢true}
use borrow.Author.Tests.{le-leb, leb-true, ne_eqb, eqb-true, eq-eqb}
use Rattle.lists.specs.Lists.{elem, sum, times}
use Rattle.lists.specs.ListLaws.{and_true, true_and, All, all_map, all_true, true_all, all_range, range_all, elem_times, times_elem, distinct_once, once_distinct}
use Rattle.format.specs.Geometry.{Geometry, sectors, Next, stop, go, off, Disc}
use Rattle.format.specs.Names.{legal_stored}
use Rattle.format.specs.Layout.{is_attribute, Slot, name_of, length_of, attribute_of, free_count, used_count, directory_pointer, free_pointer, directory, free, entries, first_of, last_of, file_chain, file_sectors, places}
use Rattle.format.specs.ChainLaws.{Chain}
use Rattle.format.proofs.ChainLaws.{met_few, ends_chain, chain_has_end}
use Rattle.format.specs.Check.{at?, elsewhere, good_entry, rule1, rule2, counted, rule3, rule4, good_chain, rule5, rule6, rule7, rule8}
use Rattle.format.specs.NameCounts.{called}
use Rattle.format.proofs.NameCounts.{differ_few, few_differ}
use Rattle.format.specs.RuleLaws.{GoodEntry, GoodChain, Counted, Apart}

-- ---- an entry and its file

good_entry_true : (s : Slot) → good_entry s ≡ true → GoodEntry s
unfolding good_entry
good_entry_true s e =
    let h = and_true (legal_stored (name_of s) && leb 1 (length_of s)) (is_attribute (attribute_of s)) e in
    let k = and_true (legal_stored (name_of s)) (leb 1 (length_of s)) h.0 in
    record { legal = k.0; some_sector = leb-true 1 (length_of s) k.1; attribute_right = h.1 }

true_good_entry : (s : Slot) → GoodEntry s → good_entry s ≡ true
unfolding good_entry
true_good_entry s g = true_and (true_and g.legal (le-leb 1 (length_of s) g.some_sector)) g.attribute_right

at_go : (p : Next) (n : ℕ) → at? p n ≡ true → p ≡ go n
at_go stop n e = absurd (false≢true e)
at_go off n e = absurd (false≢true e)
at_go (go m) n e = ap go (eqb-true m n e)

go_at : (p : Next) (n : ℕ) → p ≡ go n → at? p n ≡ true
go_at p n e = ap (λ (q : Next). at? q n) e ∙ eq-eqb n n refl

module _ (G : Geometry) (d : Disc) (s : Slot) where
  pub chain_few : length (file_chain G d s) ≤ sectors G
  unfolding file_chain
  chain_few = met_few G d (sectors G) (first_of G s)

  good_chain_true : good_chain G d s ≡ true → GoodChain G d s
  unfolding good_chain file_chain
  good_chain_true e =
      let h = and_true _ _ e in
      let k = and_true _ _ h.0 in
      record { chained = ends_chain G d (sectors G) (first_of G s) k.0; as_long = eqb-true _ _ k.1; ends_at = at_go (last_of G s) _ h.1 }

  true_good_chain : GoodChain G d s → good_chain G d s ≡ true
  unfolding good_chain file_chain
  true_good_chain f = true_and (true_and (chain_has_end G d (sectors G) f.chained chain_few) (eq-eqb _ _ f.as_long)) (go_at (last_of G s) _ f.ends_at)

-- ---- the rules

leads_on : (p : Next) → elsewhere p ≡ true → (n : ℕ) × (p ≡ go n) × (0 < n)
leads_on stop e = absurd (false≢true e)
leads_on off e = absurd (false≢true e)
leads_on (go zero) e = absurd (false≢true e)
leads_on (go (suc n)) e = (suc n, refl, omega arith)

module _ (G : Geometry) (d : Disc) where
  -- 1
  pub rule1_says : rule1 G d ≡ true → (n : ℕ) × (directory_pointer G d ≡ go n) × (0 < n)
  unfolding rule1
  rule1_says e = leads_on (directory_pointer G d) e

  pub says_rule1 : (n : ℕ) → directory_pointer G d ≡ go n → 0 < n → rule1 G d ≡ true
  unfolding rule1
  says_rule1 n e h = ap elsewhere e ∙ ap not (ne_eqb n 0 (omega arith))

  -- 2
  pub rule2_says : rule2 G d ≡ true → Chain G d (directory_pointer G d) (directory G d) × Apart (0 ∷ directory G d)
  unfolding rule2 directory
  rule2_says e = let h = and_true _ _ e in (ends_chain G d (sectors G) (directory_pointer G d) h.0, distinct_once _ h.1)

  pub says_rule2 : Chain G d (directory_pointer G d) (directory G d) → Apart (0 ∷ directory G d) → rule2 G d ≡ true
  unfolding rule2 directory
  says_rule2 c a = true_and (chain_has_end G d (sectors G) c (met_few G d (sectors G) (directory_pointer G d))) (once_distinct _ a)

  -- 3
  pub rule3_says : rule3 G d ≡ true → All (Counted d) (directory G d) × All GoodEntry (entries G d)
  unfolding rule3 counted
  rule3_says e = let h = and_true _ _ e in (all_map (λ n k. eqb-true _ _ k) (all_true _ h.0), all_map good_entry_true (all_true _ h.1))

  pub says_rule3 : All (Counted d) (directory G d) → All GoodEntry (entries G d) → rule3 G d ≡ true
  unfolding rule3 counted
  says_rule3 c g = true_and (true_all (all_map (λ n k. eq-eqb _ _ k) c)) (true_all (all_map true_good_entry g))

  -- 4
  pub rule4_says : rule4 G d ≡ true → (x : List ℕ) → called x (entries G d) ≤ 1
  unfolding rule4
  rule4_says e = differ_few _ e

  pub says_rule4 : ((x : List ℕ) → called x (entries G d) ≤ 1) → rule4 G d ≡ true
  unfolding rule4
  says_rule4 h = few_differ _ h

  -- 5
  pub rule5_says : rule5 G d ≡ true → All (GoodChain G d) (entries G d) × Apart (0 ∷ directory G d ++ file_sectors G d)
  unfolding rule5
  rule5_says e = let h = and_true _ _ e in (all_map (good_chain_true G d) (all_true _ h.0), distinct_once _ h.1)

  pub says_rule5 : All (GoodChain G d) (entries G d) → Apart (0 ∷ directory G d ++ file_sectors G d) → rule5 G d ≡ true
  unfolding rule5
  says_rule5 g a = true_and (true_all (all_map (true_good_chain G d) g)) (once_distinct _ a)

  -- 6
  pub rule6_says : rule6 G d ≡ true → Chain G d (free_pointer G d) (free G d) × Apart (0 ∷ places G d) × (free_count d ≡ length (free G d))
  unfolding rule6 free
  rule6_says e =
      let h = and_true _ _ e in
      let k = and_true _ _ h.0 in
      (ends_chain G d (sectors G) (free_pointer G d) k.0, distinct_once _ k.1, sym (eqb-true _ _ h.1))

  pub says_rule6 : Chain G d (free_pointer G d) (free G d) → Apart (0 ∷ places G d) → free_count d ≡ length (free G d) → rule6 G d ≡ true
  unfolding rule6 free
  says_rule6 c a e = true_and (true_and (chain_has_end G d (sectors G) c (met_few G d (sectors G) (free_pointer G d))) (once_distinct _ a)) (eq-eqb _ _ (sym e))

  -- 7
  pub rule7_says : rule7 G d ≡ true → used_count d ≡ sum (map length_of (entries G d))
  unfolding rule7
  rule7_says e = eqb-true _ _ e

  pub says_rule7 : used_count d ≡ sum (map length_of (entries G d)) → rule7 G d ≡ true
  unfolding rule7
  says_rule7 e = eq-eqb _ _ e

  -- 8
  pub rule8_says : rule8 G d ≡ true → (n : ℕ) → 0 < n → n < sectors G → 0 < times n (places G d)
  unfolding rule8
  rule8_says e n a b = elem_times n _ (all_range (λ (n : ℕ). elem n (places G d) ≡ true) 1 (sectors G - 1) n (all_true _ e) (omega arith) (omega arith))

  pub says_rule8 : ((n : ℕ) → 0 < n → n < sectors G → 0 < times n (places G d)) → rule8 G d ≡ true
  unfolding rule8
  says_rule8 h = true_all (range_all 1 (sectors G - 1) (λ n a b. times_elem n (places G d) (h n (omega arith) (omega arith))))
