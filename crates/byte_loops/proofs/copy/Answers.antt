-- `byte_loops::copy` meets its contract.
use Rattle.std.proofs.Common.{◌≡◌, ℕ, ◌+◌, arith, refl, sym, ap, ◌∙◌, length-set}
use Rattle.std.proofs.lemmas.List.Edits.{sets}
use Rattle.byte_loops.proofs.Loops.{copy_step, copy_end}
use Rattle.byte_loops.proofs.copy.Goals as goal

pub loop-i-init : goal.loop-i-init
loop-i-init c =
    let a = c.args in
    let e : a.at + 0 ≡ a.at = omega arith in
    (refl, ap (λ (j : ℕ). sets a.to.now j a.from.now) e)

pub loop-i-preserved : goal.loop-i-preserved
loop-i-preserved c =
    let inv = c.loop-i.invariant in
    (simp length-set inv.0, copy_step _ _ _ _ c.loop-i-test.true ∙ inv.1)

pub returns : goal.returns
returns c = sym (copy_end _ _ _ _ c.loop-i-test.false) ∙ c.loop-i.invariant.1
