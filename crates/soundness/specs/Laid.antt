-- What a sound disc is, as facts: the directory and the files, the free chain, the counts, and each sector in one place.
-- A disc is laid just where no rule of the check is broken.
-- Assumes nothing.
use Rattle.std.specs.Prelude.{◌≡◌, ℕ, ◌≤◌, List, map, ◌++◌, length}
use Rattle.std.proofs.Common.{arith, length-append, eq-eqb}
use Rattle.lists.specs.Lists.{sum, times, Once}
use Rattle.lists.specs.ListLaws.{all_join, once_long}
use Rattle.format.specs.Geometry.{Geometry, sectors, Disc}
use Rattle.format.proofs.GeometryLaws.{pointed_on}
use Rattle.format.specs.Layout.{free_count, used_count, length_of, free_pointer, directory, free, slots, entries, file_sectors}
use Rattle.format.specs.ChainLaws.{Chain}
use Rattle.format.proofs.ChainLaws.{chain_met}
use Rattle.format.specs.Check.{broken}
use Rattle.format.specs.CheckLaws.{Rules}
use Rattle.format.proofs.CheckLaws.{sound_rules, rules_sound}
use Rattle.format.proofs.RuleLaws.{rule6_says, says_rule6, rule7_says, says_rule7, rule8_says, says_rule8}
use Rattle.lists.specs.Counts.{OneOf, one_of, all_once, once_all_apart}
use Rattle.soundness.specs.Filed.{entries_of, chains_of, Filed, chain_below, chains_below, rules_filed, directory_is, filed_rules}

-- all rules hold; the directory's sectors are dir, the free ones frees
pub record Laid (G : Geometry) (d : Disc) (dir frees : List ℕ) : Type 0 where
  pub filed : Filed G d dir
  pub free_chain : Chain G d (free_pointer G d) frees
  -- each sector but 0/1 is met exactly once
  pub once : Once (sectors G) (dir ++ chains_of G d (entries_of d dir) ++ frees)
  pub free_counted : free_count d ≡ length frees
  pub used_counted : used_count d ≡ sum (map length_of (entries_of d dir))

-- ---- from the rules

pub rules_laid : (G : Geometry) (d : Disc) → Rules G d → Laid G d (directory G d) (free G d)
unfolding entries slots file_sectors
rules_laid G d r =
    let f = rules_filed G d r.to5 in
    let h6 = rule6_says G d r.r6 in
    record {
      filed = f;
      free_chain = h6.0;
      once = all_once (sectors G) (directory G d ++ file_sectors G d ++ free G d) h6.1 (rule8_says G d r.r8)
          (all_join (all_join (chain_below f.directory_chain (pointed_on G _ _)) (chains_below G d (entries G d))) (chain_below h6.0 (pointed_on G _ _)));
      free_counted = h6.2;
      used_counted = rule7_says G d r.r7;
    }

-- ---- and back

module _ {G : Geometry} {d : Disc} {dir frees : List ℕ} (l : Laid G d dir frees) where
  -- a sector is one of the directory's, or of one file's, or of the free ones
  pub laid_one : (n : ℕ) → OneOf (sectors G) n (times n dir) (times n (chains_of G d (entries_of d dir))) (times n frees)
  laid_one n = one_of dir (chains_of G d (entries_of d dir)) frees l.once n

  pub free_few : length frees ≤ sectors G
  free_few = omega (arith, once_long (sectors G) _ l.once, length-append (dir ++ chains_of G d (entries_of d dir)) frees)

  pub free_is : free G d ≡ frees
  unfolding free
  free_is = chain_met G d (sectors G) l.free_chain free_few

laid_rules' : (G : Geometry) (d : Disc) → Laid G d (directory G d) (free G d) → Rules G d
unfolding entries slots file_sectors
laid_rules' G d l =
    record {
      to5 = filed_rules l.filed;
      r6 = says_rule6 G d l.free_chain (once_all_apart _ l.once) l.free_counted;
      r7 = says_rule7 G d l.used_counted;
      r8 = says_rule8 G d (λ n a b. omega (arith, l.once.inside n a b));
    }

pub laid_rules : {G : Geometry} {d : Disc} {dir frees : List ℕ} → Laid G d dir frees → Rules G d
laid_rules {G} {d} l = laid_rules' G d (rw (directory_is l.filed, free_is l) l)

pub laid_sound : {G : Geometry} {d : Disc} {dir frees : List ℕ} → Laid G d dir frees → broken G d ≡ 0
laid_sound {G} {d} l = rules_sound G d (laid_rules l)

pub sound_laid : (G : Geometry) (d : Disc) → broken G d ≡ 0 → Laid G d (directory G d) (free G d)
sound_laid G d e = rules_laid G d (sound_rules G d (eq-eqb _ 0 e))
