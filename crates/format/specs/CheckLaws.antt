-- What the laws of proofs/CheckLaws.antt speak of.
-- Assumes nothing.
use Rattle.std.specs.Prelude.{◌≡◌, true}
use Rattle.format.specs.Geometry.{Geometry, Disc}
use Rattle.format.specs.Check.{rule1, rule2, rule3, rule4, rule5, rule6, rule7, rule8}

-- rules 1 to 5: what a repair may rely on
pub record RulesTo5 (G : Geometry) (d : Disc) : Type 0 where
  pub r1 : rule1 G d ≡ true
  pub r2 : rule2 G d ≡ true
  pub r3 : rule3 G d ≡ true
  pub r4 : rule4 G d ≡ true
  pub r5 : rule5 G d ≡ true

pub record Rules (G : Geometry) (d : Disc) : Type 0 where
  pub to5 : RulesTo5 G d
  pub r6 : rule6 G d ≡ true
  pub r7 : rule7 G d ≡ true
  pub r8 : rule8 G d ≡ true
