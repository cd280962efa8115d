-- `fsck::directory_broken` meets its contract.
use Rattle.std.proofs.Common.{arith, ◌≡◌, sym, ap, ◌∙◌, true}
use Rattle.std.proofs.lemmas.Result.{err_from_is_err_and}
use Rattle.format.specs.Layout.{directory_pointer, directory}
use Rattle.format.specs.Check.{rule1, rule2}
use Rattle.format.proofs.CheckLaws.{broken_1, broken_2, broken_3, broken_4}
use Rattle.geometry.specs.Meaning.{geo, sectors_of}
use Rattle.disc.specs.Meaning.{led}
use Rattle.fsck.specs.Meaning.{rule_of}
use Rattle.fsck.specs.Rules.{marks_of, rule1_is, rule2_broken, rule2_ended}
use Rattle.fsck.proofs.directory_broken.Goals as goal
use Rattle.fsck.proofs.directory_broken.Goals.{After-step_to-from, In_ok-ok_or}

holds_1 : (c : After-step_to-from) → rule1 (geo c.args.g) (sectors_of c.args.g c.args.image.now) ≡ true
holds_1 c = rule1_is c.requires.0.valid _ c.directory_pointer-first.ensures.0 c.is_elsewhere.ensures ∙ c.if-not-is_elsewhere.false

pointer : (c : After-step_to-from) → led c.step_to-from.result ≡ directory_pointer (geo c.args.g) (sectors_of c.args.g c.args.image.now)
pointer c = c.step_to-from.ensures.0 ∙ c.directory_pointer-first.ensures.0

-- the walk came to an end
holds_2 : (c : In_ok-ok_or) → let G = geo c.args.g in
    let d = sectors_of c.args.g c.args.image.now in
    (rule2 G d ≡ true) × (c.follow.new.marks ≡ marks_of (directory G d))
holds_2 c =
    rule2_ended c.requires.0.valid _ (pointer (goal.at.In_ok-ok_or c).After-step_to-from) c.requires.1 (rw c.in_ok-ok_or.ensures.ok_part at c.follow.ensures)

pub returns-then-not-is_elsewhere : goal.returns-then-not-is_elsewhere
returns-then-not-is_elsewhere c =
    let r1 = rule1_is c.requires.0.valid _ c.directory_pointer-first.ensures.0 c.is_elsewhere.ensures ∙ c.if-not-is_elsewhere.true in
    (record { is = sym (broken_1 _ _ r1); some = omega arith; few = omega arith }, omega arith)

pub returns-in_err-ok_or : goal.returns-in_err-ok_or
returns-in_err-ok_or c =
    let at = (goal.at.returns-in_err-ok_or c).After-step_to-from in
    let none = c.in_err-ok_or.ensures.ok_part in
    let r2 = rule2_broken c.requires.0.valid _ (pointer at) c.requires.1 (rw none at c.follow.ensures) in
    let p = err_from_is_err_and c.from_residual.result c.from_residual.ensures.1 in
    let number = ap rule_of (rw none at c.in_err-ok_or.ensures.value) in
    let broken = number ∙ sym (broken_2 _ _ (holds_1 at) r2) in
    rw (p.1, p.2) (record { is = broken; some = omega (arith, number); few = omega (arith, number) }, omega (arith, number))

pub returns-then-not-entries_good : goal.returns-then-not-entries_good
returns-then-not-entries_good c =
    let r1 = holds_1 (goal.at.returns-then-not-entries_good c).After-step_to-from in
    let r2 = (holds_2 (goal.at.returns-then-not-entries_good c).In_ok-ok_or).0 in
    let r3 = sym c.entries_good.ensures ∙ c.if-not-entries_good.true in
    (record { is = sym (broken_3 _ _ r1 r2 r3); some = omega arith; few = omega arith }, omega arith)

pub returns-then-not-names_differ : goal.returns-then-not-names_differ
returns-then-not-names_differ c =
    let r1 = holds_1 (goal.at.returns-then-not-names_differ c).After-step_to-from in
    let r2 = (holds_2 (goal.at.returns-then-not-names_differ c).In_ok-ok_or).0 in
    let r3 = sym c.entries_good.ensures ∙ c.if-not-entries_good.false in
    let r4 = sym c.names_differ.ensures ∙ c.if-not-names_differ.true in
    (record { is = sym (broken_4 _ _ r1 r2 r3 r4); some = omega arith; few = omega arith }, omega arith)

pub returns : goal.returns
returns c =
    let r2 = holds_2 (goal.at.returns c).In_ok-ok_or in
    record {
      rules = record {
        r1 = holds_1 (goal.at.returns c).After-step_to-from;
        r2 = r2.0;
        r3 = sym c.entries_good.ensures ∙ c.if-not-entries_good.false;
        r4 = sym c.names_differ.ensures ∙ c.if-not-names_differ.false;
      };
      marks = r2.1;
    }
