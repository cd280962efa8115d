-- `passing::stops` meets its contract.
use Rattle.std.proofs.Common.{refl, ◌∙◌, arith, length-set, get_or-set_same, get_or-set_other}
use native.Mathlib.Decide.{ℕ_discrete}
use Rattle.passing.proofs.stops.Goals as goal

pub loop-i-init : goal.loop-i-init
loop-i-init c = (refl, λ j h. absurd (omega arith))

pub loop-i-preserved : goal.loop-i-preserved
loop-i-preserved c =
    let more = c.loop-i-test.true in
    let few = c.requires.few_on_track in
    let stop = c.stop_at.result in (
      length-set c.loop-i.stops c.loop-i.i stop ∙ c.loop-i.invariant.0,
      λ j h. elim (ℕ_discrete j c.loop-i.i) [
        | yes e ↦ rw e (rw (get_or-set_same c.loop-i.stops c.loop-i.i stop 0 (omega (arith, c.loop-i.invariant.0, more, few))) c.stop_at.ensures)
        | no e ↦ rw (get_or-set_other c.loop-i.stops c.loop-i.i j stop 0 e) (c.loop-i.invariant.1 j (omega arith))
      ],
    )

pub returns : goal.returns
returns c = record { long = c.loop-i.invariant.0; at = λ j h. c.loop-i.invariant.1 j (omega (arith, c.loop-i-test.false)) }
