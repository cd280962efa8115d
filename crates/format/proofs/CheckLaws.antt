-- Laws of Check: a disc is sound just where all eight rules hold, and which rule is reported where one is broken.
-- Assumes nothing.
use Rattle.std.specs.Prelude.{◌≡◌, refl, ℕ, ◌<◌, Bool, true, false, not, ◌&&◌, leb}
use Rattle.std.proofs.Common.{arith, eqb-true}
use Rattle.lists.specs.ListLaws.{and_true}
use Rattle.format.specs.Refusals.{Try, refuse◌if◌, ◌>>◌}
use Rattle.format.specs.Geometry.{Geometry, Disc}
use Rattle.format.specs.Check.{lowest, rule1, rule2, rule3, rule4, rule5, files_hold, rule6, rule7, rule8, broken, sound}
use Rattle.format.specs.CheckLaws.{RulesTo5, Rules}

passed : {A : Type 0} (k : ℕ) (b : Bool) (t : Try ℕ A) → 0 < k → lowest (refuse k if not b >> t) ≡ 0 → (b ≡ true) × (lowest t ≡ 0)
unfolding refuse◌if◌ ◌>>◌
passed k true t h e = (refl, e)
passed k false t h e = absurd (omega arith)

passed_last : (k : ℕ) (b : Bool) → 0 < k → lowest (refuse k if not b) ≡ 0 → b ≡ true
unfolding refuse◌if◌
passed_last k true h e = refl
passed_last k false h e = absurd (omega arith)

pub sound_rules : (G : Geometry) (d : Disc) → sound G d ≡ true → Rules G d
unfolding broken
sound_rules G d e =
    let p1 = passed 1 (rule1 G d) _ (omega arith) (eqb-true _ _ e) in
    let p2 = passed 2 (rule2 G d) _ (omega arith) p1.1 in
    let p3 = passed 3 (rule3 G d) _ (omega arith) p2.1 in
    let p4 = passed 4 (rule4 G d) _ (omega arith) p3.1 in
    let p5 = passed 5 (rule5 G d) _ (omega arith) p4.1 in
    let p6 = passed 6 (rule6 G d) _ (omega arith) p5.1 in
    let p7 = passed 7 (rule7 G d) _ (omega arith) p6.1 in
    let p8 = passed_last 8 (rule8 G d) (omega arith) p7.1 in
    record { to5 = record { r1 = p1.0; r2 = p2.0; r3 = p3.0; r4 = p4.0; r5 = p5.0 }; r6 = p6.0; r7 = p7.0; r8 = p8 }

module _ (G : Geometry) (d : Disc) where
  pub rules_sound : Rules G d → broken G d ≡ 0
  unfolding broken refuse◌if◌ ◌>>◌
  rules_sound r = rw (r.to5.r1, r.to5.r2, r.to5.r3, r.to5.r4, r.to5.r5, r.r6, r.r7, r.r8)

  -- the lowest broken rule, where all below it hold
  pub broken_1 : rule1 G d ≡ false → broken G d ≡ 1
  unfolding broken refuse◌if◌ ◌>>◌
  broken_1 a = rw a

  pub broken_2 : rule1 G d ≡ true → rule2 G d ≡ false → broken G d ≡ 2
  unfolding broken refuse◌if◌ ◌>>◌
  broken_2 a b = rw (a, b)

  pub broken_3 : rule1 G d ≡ true → rule2 G d ≡ true → rule3 G d ≡ false → broken G d ≡ 3
  unfolding broken refuse◌if◌ ◌>>◌
  broken_3 a b c = rw (a, b, c)

  pub broken_4 : rule1 G d ≡ true → rule2 G d ≡ true → rule3 G d ≡ true → rule4 G d ≡ false → broken G d ≡ 4
  unfolding broken refuse◌if◌ ◌>>◌
  broken_4 a b c e = rw (a, b, c, e)

  pub broken_5 : rule1 G d ≡ true → rule2 G d ≡ true → rule3 G d ≡ true → rule4 G d ≡ true → rule5 G d ≡ false → broken G d ≡ 5
  unfolding broken refuse◌if◌ ◌>>◌
  broken_5 a b c e f = rw (a, b, c, e, f)

  pub broken_6 : RulesTo5 G d → rule6 G d ≡ false → broken G d ≡ 6
  unfolding broken refuse◌if◌ ◌>>◌
  broken_6 r a = rw (r.r1, r.r2, r.r3, r.r4, r.r5, a)

  pub broken_7 : RulesTo5 G d → rule6 G d ≡ true → rule7 G d ≡ false → broken G d ≡ 7
  unfolding broken refuse◌if◌ ◌>>◌
  broken_7 r a b = rw (r.r1, r.r2, r.r3, r.r4, r.r5, a, b)

  pub broken_8 : RulesTo5 G d → rule6 G d ≡ true → rule7 G d ≡ true → rule8 G d ≡ false → broken G d ≡ 8
  unfolding broken refuse◌if◌ ◌>>◌
  broken_8 r a b c = rw (r.r1, r.r2, r.r3, r.r4, r.r5, a, b, c)

-- ---- rules 1 to 5

-- whether the lowest rule of a run of tests, if one is broken, is after the first five
lowest_five : (a b c d e f g h : Bool) → let n = lowest (do
  refuse 1 if not a
  refuse 2 if not b
  refuse 3 if not c
  refuse 4 if not d
  refuse 5 if not e
  refuse 6 if not f
  refuse 7 if not g
  refuse 8 if not h) in (a && b && c && d && e) ≡ not (leb 1 n && leb n 5)
unfolding refuse◌if◌ ◌>>◌
lowest_five false b c d e f g h = refl
lowest_five true false c d e f g h = refl
lowest_five true true false d e f g h = refl
lowest_five true true true false e f g h = refl
lowest_five true true true true false f g h = refl
lowest_five true true true true true false g h = refl
lowest_five true true true true true true false h = refl
lowest_five true true true true true true true false = refl
lowest_five true true true true true true true true = refl

module _ (G : Geometry) (d : Disc) where
  -- they hold exactly where the check reports none of them
  pub hold_reported : files_hold G d ≡ not (leb 1 (broken G d) && leb (broken G d) 5)
  unfolding files_hold broken
  hold_reported = lowest_five (rule1 G d) (rule2 G d) (rule3 G d) (rule4 G d) (rule5 G d) (rule6 G d) (rule7 G d) (rule8 G d)

  pub rules_hold : RulesTo5 G d → files_hold G d ≡ true
  unfolding files_hold
  rules_hold r = rw (r.r1, r.r2, r.r3, r.r4, r.r5)

  pub hold_rules : files_hold G d ≡ true → RulesTo5 G d
  unfolding files_hold
  hold_rules e =
      let h4 = and_true _ _ e in
      let h3 = and_true _ _ h4.0 in
      let h2 = and_true _ _ h3.0 in
      let h1 = and_true _ _ h2.0 in
      record { r1 = h1.0; r2 = h1.1; r3 = h2.1; r4 = h3.1; r5 = h4.1 }
