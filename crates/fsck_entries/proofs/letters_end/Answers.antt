-- `fsck_entries::letters_end` meets its contract.
use Rattle.std.proofs.Common.{◌≡◌, arith, rules, refl, sym, ◌∙◌}
use Rattle.fsck_entries.proofs.Loops.{spaced_letter, spaced_rest, spaced_over}
use Rattle.fsck_entries.proofs.letters_end.Goals as goal

pub loop-i-init : goal.loop-i-init
loop-i-init c = refl

pub returns-then-not-is_letter : goal.returns-then-not-is_letter
returns-then-not-is_letter c =
    let other = sym c.is_letter.ensures ∙ c.if-not-is_letter.true in
    (search rules, c.loop-i.invariant ∙ spaced_rest _ _ _ c.requires.1 c.loop-i-test.true other)

pub loop-i-preserved : goal.loop-i-preserved
loop-i-preserved c = c.loop-i.invariant ∙ spaced_letter _ _ _ c.requires.1 c.loop-i-test.true (sym c.is_letter.ensures ∙ c.if-not-is_letter.false)

pub returns : goal.returns
returns c =
    let low = c.loop-i.auto.i-end c.requires.0 in
    let over : c.loop-i.i ≡ c.args.end = omega (arith, c.loop-i-test.false) in
    (search rules, rw over at (c.loop-i.invariant ∙ spaced_over _ _ _ c.requires.1 c.loop-i-test.false))
