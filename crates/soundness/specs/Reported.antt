-- A disc whose rules 1 to 6 hold and whose used count is wrong: the check reports rule 7.
-- Assumes nothing.
use Rattle.std.specs.Prelude.{◌≡◌, ◌≢◌, ℕ, ◌≤◌, true, false, List, ◌∷◌, map, ◌++◌, length}
use Rattle.std.proofs.Common.{ne_eqb}
use Rattle.lists.specs.Lists.{sum}
use Rattle.format.specs.Geometry.{Geometry, sectors, Disc}
use Rattle.format.specs.Layout.{length_of, used_count, free_count, free_pointer, free, file_sectors}
use Rattle.format.specs.ChainLaws.{Chain}
use Rattle.format.proofs.ChainLaws.{chain_met}
use Rattle.format.specs.Check.{rule6, rule7, broken}
use Rattle.format.proofs.CheckLaws.{broken_7}
use Rattle.format.specs.RuleLaws.{Apart}
use Rattle.format.proofs.RuleLaws.{says_rule6}
use Rattle.soundness.specs.Filed.{entries_of, chains_of, Filed, directory_is, entries_are, filed_rules}

module _ {G : Geometry} {d : Disc} {dir frees : List ℕ} (f : Filed G d dir) (c : Chain G d (free_pointer G d) frees) (few : length frees ≤ sectors G)
    (apart : Apart (0 ∷ dir ++ chains_of G d (entries_of d dir) ++ frees)) (counted : free_count d ≡ length frees)
    (miscounted : used_count d ≢ sum (map length_of (entries_of d dir))) where
  free_is : free G d ≡ frees
  unfolding free
  free_is = chain_met G d (sectors G) c few

  holds_6 : rule6 G d ≡ true
  unfolding file_sectors
  holds_6 = says_rule6 G d (rw free_is c) (rw (directory_is f, entries_are f, free_is) apart) (rw free_is counted)

  broken_used : rule7 G d ≡ false
  unfolding rule7
  broken_used = rw (entries_are f) (ne_eqb _ _ miscounted)

  pub reports_7 : broken G d ≡ 7
  reports_7 = broken_7 G d (filed_rules f) holds_6 broken_used
