-- What rules 1 to 5 say, as facts: the directory and the files. A repair relies on these alone.
-- Assumes nothing.
use Rattle.std.specs.Prelude.{◌≡◌, refl, ℕ, zero, suc, ◌+◌, ◌≤◌, ◌<◌, Bool, not, true, false, length}
use Rattle.std.proofs.Math.Path.{ap}
use Rattle.std.proofs.Common.{arith}
use Rattle.std.proofs.Math.Decide.{ℕ_discrete}
use mathlib.Core.List.{List, [], ◌∷◌, map, ◌++◌}
use Rattle.lists.specs.Lists.{joined, times, word_at}
use Rattle.lists.specs.ListLaws.{zero_or, All, done, ◌also◌, all_join, times_join, times_here, times_past, all_at, same_true}
use Rattle.format.specs.Geometry.{Geometry, sectors, Next, go, Disc}
use Rattle.format.specs.GeometryLaws.{OnDisc}
use Rattle.format.proofs.GeometryLaws.{pointed_on}
use Rattle.format.specs.Layout.{length_offset, Slot, empty_slot, free_slot, in_use, slots_of, directory_pointer, directory, slots, entries, first_of, file_chain, file_sectors}
use Rattle.format.specs.ChainLaws.{Chain, end, on}
use Rattle.format.proofs.ChainLaws.{met_below, chain_met}
use Rattle.format.specs.CheckLaws.{RulesTo5}
use Rattle.format.specs.NameCounts.{called}
use Rattle.format.specs.RuleLaws.{GoodEntry, GoodChain, Counted, Apart}
use Rattle.format.proofs.RuleLaws.{rule1_says, says_rule1, rule2_says, says_rule2, rule3_says, says_rule3, rule4_says, says_rule4, rule5_says, says_rule5}
use Rattle.lists.specs.Counts.{few_below, OneOf}
use Rattle.soundness.specs.Slots.{is_used}

-- a good entry isn't a free slot
pub good_used : (s : Slot) → GoodEntry s → is_used s ≡ true
unfolding free_slot empty_slot
good_used s g = by (free_slot s) refl
  where
    by : (b : Bool) → free_slot s ≡ b → not b ≡ true
    by true q = let zeros = same_true s.bytes empty_slot q in absurd (omega (arith, g.some_sector, ap (λ (bs : List ℕ). word_at bs length_offset) zeros))
    by false q = refl

-- ---- the directory and the files

-- the entries of these directory sectors, and the sectors of these entries' files
abbrev pub entries_of : Disc → List ℕ → List Slot
entries_of d dir = in_use (slots_of d dir)

abbrev pub chains_of : Geometry → Disc → List Slot → List ℕ
chains_of G d ss = joined (map (file_chain G d) ss)

-- rules 1 to 5 hold, and the directory's sectors are dir
pub record Filed (G : Geometry) (d : Disc) (dir : List ℕ) : Type 0 where
  pub directory_chain : Chain G d (directory_pointer G d) dir
  pub some_directory : 0 < length dir
  pub in_use_counted : All (Counted d) dir
  pub good_entries : All GoodEntry (entries_of d dir)
  pub names_differ : (x : List ℕ) → called x (entries_of d dir) ≤ 1
  pub good_chains : All (GoodChain G d) (entries_of d dir)
  -- no sector is met twice, and 0/1 not at all
  pub apart : Apart (0 ∷ dir ++ chains_of G d (entries_of d dir))

pub chain_below : {G : Geometry} {d : Disc} {p : Next} {ns : List ℕ} → Chain G d p ns → OnDisc G p → All (λ n. n < sectors G) ns
unfolding OnDisc
chain_below (end e) h = done
chain_below {G} (on {n = n} e c) h = h n e also chain_below c (pointed_on G _ _)

pub chains_below : (G : Geometry) (d : Disc) (ss : List Slot) → All (λ n. n < sectors G) (chains_of G d ss)
unfolding file_chain
chains_below G d [] = done
chains_below G d (s ∷ ss) = all_join (met_below G d (sectors G) (first_of G s) (pointed_on G _ _)) (chains_below G d ss)

-- ---- from the rules

some_met : {G : Geometry} {d : Disc} {p : Next} {ns : List ℕ} (n : ℕ) → p ≡ go n → Chain G d p ns → 0 < length ns
some_met n e (end q) = let z : ◌≡◌ {A = ℕ} 0 1 = cc in absurd (omega arith)
some_met n e (on q c) = omega arith

pub rules_filed : (G : Geometry) (d : Disc) → RulesTo5 G d → Filed G d (directory G d)
unfolding entries slots file_sectors
rules_filed G d r =
    let h1 = rule1_says G d r.r1 in
    let h2 = rule2_says G d r.r2 in
    let h3 = rule3_says G d r.r3 in
    let h5 = rule5_says G d r.r5 in
    record {
      directory_chain = h2.0;
      some_directory = some_met h1.0 h1.1 h2.0;
      in_use_counted = h3.0;
      good_entries = h3.1;
      names_differ = rule4_says G d r.r4;
      good_chains = h5.0;
      apart = h5.1;
    }

-- ---- and back

module _ {G : Geometry} {d : Disc} {dir : List ℕ} (f : Filed G d dir) where
  met_at : (n : ℕ) → times n (dir ++ chains_of G d (entries_of d dir)) ≡ times n dir + times n (chains_of G d (entries_of d dir))
  met_at n = times_join n dir (chains_of G d (entries_of d dir))

  -- a sector is met by the directory or by one file or by neither
  pub filed_one : (n : ℕ) → OneOf (sectors G) n (times n dir) (times n (chains_of G d (entries_of d dir))) 0
  filed_one n =
      let files : List ℕ = chains_of G d (entries_of d dir) in
      let below : All (λ m. m < sectors G) (dir ++ files) =
      all_join (chain_below f.directory_chain (pointed_on G _ _)) (chains_below G d (entries_of d dir)) in
      elim (ℕ_discrete n 0) [
        | yes e ↦
            let z : times n dir + times n files ≡ 0 = omega (arith, f.apart n, met_at n, times_here n 0 (dir ++ files) e) in
            record { one = omega arith; low = λ h. absurd (omega arith); high = λ h. absurd (omega arith) }
        | no e ↦
            record {
              one = omega (arith, f.apart n, met_at n, times_past n 0 (dir ++ files) e);
              low = λ h. omega arith;
              high = λ h. all_at (λ m. m < sectors G) n below (omega (arith, met_at n));
            }
      ]

  no_system : times 0 dir ≡ 0
  no_system = zero_or (times 0 dir) (λ h. omega (arith, (filed_one 0).low (omega arith)))

  pub dir_few : length dir ≤ sectors G
  dir_few = omega (arith, few_below (sectors G) dir (chain_below f.directory_chain (pointed_on G _ _)) no_system (λ n. omega (arith, (filed_one n).one)))

  -- the lists are those of the definitions
  pub directory_is : directory G d ≡ dir
  unfolding directory
  directory_is = chain_met G d (sectors G) f.directory_chain dir_few

  pub entries_are : entries G d ≡ entries_of d dir
  unfolding entries slots
  entries_are = ap (λ (x : List ℕ). in_use (slots_of d x)) directory_is

first_met : {G : Geometry} {d : Disc} {p : Next} {ns : List ℕ} → Chain G d p ns → 0 < length ns → times 0 ns ≡ 0 → (n : ℕ) × (p ≡ go n) × (0 < n)
first_met (end e) h z = absurd (omega arith)
first_met (on {n = zero} {ns = ns} e c) h z = absurd (omega (arith, times_here 0 0 ns refl))
first_met (on {n = suc n} e c) h z = (suc n, e, omega arith)

rules_of : (G : Geometry) (d : Disc) → Filed G d (directory G d) → RulesTo5 G d
unfolding entries slots file_sectors
rules_of G d f =
    let first = first_met f.directory_chain f.some_directory (no_system f) in
    record {
      r1 = says_rule1 G d first.0 first.1 first.2;
      r2 = says_rule2 G d f.directory_chain (λ n. omega (arith, f.apart n, times_join n (0 ∷ directory G d) (chains_of G d (entries_of d (directory G d)))));
      r3 = says_rule3 G d f.in_use_counted f.good_entries;
      r4 = says_rule4 G d f.names_differ;
      r5 = says_rule5 G d f.good_chains f.apart;
    }

pub filed_rules : {G : Geometry} {d : Disc} {dir : List ℕ} → Filed G d dir → RulesTo5 G d
filed_rules {G} {d} f = rules_of G d (rw (directory_is f) f)
