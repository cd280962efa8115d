-- `fsck::free_broken` meets its contract.
use Rattle.std.proofs.Common.{◌≡◌, sym, ◌∙◌, true, eq-eqb, ne_eqb}
use Rattle.format.specs.Geometry.{Geometry, Disc}
use Rattle.format.specs.Check.{rule6, rule7, rule8}
use Rattle.format.proofs.CheckLaws.{broken_6, broken_7, broken_8, rules_sound}
use Rattle.geometry.specs.Meaning.{geo, sectors_of}
use Rattle.fsck.specs.Rules.{rule6_is, rule6_marks, rule7_is, rule8_is}
use Rattle.fsck.proofs.free_broken.Goals as goal
use Rattle.fsck.proofs.free_broken.Goals.{After-all_marked, After-free_good, Else-not-free_good, Else-not-is_counted}

abbrev G : After-free_good → Geometry
G c = geo c.args.g

abbrev disc : After-free_good → Disc
disc c = sectors_of c.args.g c.args.image.now

-- ---- what the tests say of the rules

is_6 : (c : After-free_good) → rule6 (G c) (disc c) ≡ c.free_good.result
is_6 c = rule6_is c.requires.0.valid _ c.requires.1.to5 c.requires.1.marks c.free_good.ensures

holds_6 : (c : Else-not-free_good) → rule6 (geo c.args.g) (sectors_of c.args.g c.args.image.now) ≡ true
holds_6 c = rule6_is c.requires.0.valid _ c.requires.1.to5 c.requires.1.marks c.free_good.ensures ∙ c.if-not-free_good.false

holds_7 : (c : Else-not-is_counted) → rule7 (geo c.args.g) (sectors_of c.args.g c.args.image.now) ≡ true
holds_7 c = rule7_is c.requires.0.valid _ _ _ c.used_count.ensures c.requires.1.used ∙ eq-eqb _ _ c.if-not-is_counted.false

is_8 : (c : After-all_marked) → rule8 (geo c.args.g) (sectors_of c.args.g c.args.image.now) ≡ c.all_marked.result
is_8 c =
    let v = c.requires.0.valid in
    let marks = rule6_marks v _ c.requires.1.to5 c.requires.1.marks c.free_good.ensures c.if-not-free_good.false in
    rule8_is v _ marks c.all_marked.ensures

pub returns-then-not-free_good : goal.returns-then-not-free_good
returns-then-not-free_good c =
    sym (broken_6 _ _ c.requires.1.to5 (is_6 (goal.at.returns-then-not-free_good c).After-free_good ∙ c.if-not-free_good.true))

pub returns-then-not-is_counted : goal.returns-then-not-is_counted
returns-then-not-is_counted c =
    let r6 = holds_6 (goal.at.returns-then-not-is_counted c).Else-not-free_good in
    let r7 = rule7_is c.requires.0.valid _ _ _ c.used_count.ensures c.requires.1.used ∙ ne_eqb _ _ c.if-not-is_counted.true in
    sym (broken_7 _ _ c.requires.1.to5 r6 r7)

pub returns-then-not-all_marked : goal.returns-then-not-all_marked
returns-then-not-all_marked c =
    let r6 = holds_6 (goal.at.returns-then-not-all_marked c).Else-not-free_good in
    let r7 = holds_7 (goal.at.returns-then-not-all_marked c).Else-not-is_counted in
    let r8 = is_8 (goal.at.returns-then-not-all_marked c).After-all_marked ∙ c.if-not-all_marked.true in
    sym (broken_8 _ _ c.requires.1.to5 r6 r7 r8)

pub returns : goal.returns
returns c =
    let r6 = holds_6 (goal.at.returns c).Else-not-free_good in
    let r7 = holds_7 (goal.at.returns c).Else-not-is_counted in
    let r8 = is_8 (goal.at.returns c).After-all_marked ∙ c.if-not-all_marked.false in
    sym (rules_sound _ _ (record { to5 = c.requires.1.to5; r6 = r6; r7 = r7; r8 = r8 }))
