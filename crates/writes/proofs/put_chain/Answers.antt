-- `writes::put_chain` meets its contract. The loop's invariant: storing the records of what is left of the walk gives what storing all of them gives at the
-- start.
use Rattle.std.proofs.Common.{arith, ℕ, ◌-◌, ◌+◌, ◌≡◌, refl, ap, []}
use Rattle.std.proofs.Math.Nat.{sub-zero}
use Rattle.geometry.specs.Meaning.{geo, sectors_of}
use Rattle.disc.specs.Meaning.{meaning, led}
use Rattle.disc.specs.Laws.{reached}
use Rattle.records.specs.Storing.{Stored, storing_all, storing_step, storing_end, stored_as}
use Rattle.format.specs.Writes.{record_of}
use Rattle.soundness.specs.CopiedOut.{standing}
use Rattle.writes.specs.Laws.{walked, walked_stops, walked_none, walked_go}
use Rattle.writes.proofs.put_chain.Goals as goal
use Rattle.writes.proofs.put_chain.Goals.{At-loop-i}

-- what is stored where nothing is left of the walk
stored_all : (c : At-loop-i) → let a = c.args in let d = sectors_of a.g a.image.now in
    walked (geo a.g) d (c.args.count - c.loop-i.i) (led c.loop-i.step) ≡ []
    → Stored a.buffer.now a.at (walked (geo a.g) d a.count (meaning a.first)) c.loop-i.buffer c.loop-i.position
stored_all c none =
    let a = c.args in
    stored_as (ap (walked (geo a.g) (sectors_of a.g a.image.now) a.count) c.step_to-step.ensures.0) (storing_end c.loop-i.invariant.0 none)

pub loop-i-init : goal.loop-i-init
loop-i-init c = (rw sub-zero (storing_all _ _ refl), c.step_to-step.ensures.1, omega arith)

pub shape_of-buffer-in_default : goal.shape_of-buffer-in_default
shape_of-buffer-in_default c = c.loop-i.invariant.0.long

pub returns-in_default : goal.returns-in_default
returns-in_default c =
    stored_all (goal.at.returns-in_default c).At-loop-i (walked_stops _ _ (c.args.count - c.loop-i.i) c.loop-i.step c.in_default.not-To)

pub put_write-position-requires : goal.put_write-position-requires
put_write-position-requires c =
    let inv = c.loop-i.invariant in (
      c.requires.0,
      reached _ c.in-To.is inv.1,
      omega (arith, inv.2, inv.0.long, c.loop-i-test.true),
    )

pub step_from-step-requires : goal.step_from-step-requires
step_from-step-requires c = (c.requires.0, reached _ c.in-To.is c.loop-i.invariant.1)

pub loop-i-preserved : goal.loop-i-preserved
loop-i-preserved c =
    let inv = c.loop-i.invariant in
    let a = c.args in
    let n : ℕ = c.in-To.s.number.0 in
    let G = geo a.g in
    let d = sectors_of a.g a.image.now in
    let fewer : a.count - c.loop-i.i - 1 ≡ a.count - (c.loop-i.i + 1) = omega arith in
    let next = rw fewer at (walked_go G d (a.count - c.loop-i.i) n (omega (arith, c.loop-i-test.true)) (ap led c.in-To.is) c.step_from-step.ensures.0) in (
      storing_step (record_of G (standing d n)) _ inv.0 next c.put_write-position.ensures.0,
      c.step_from-step.ensures.1,
      omega (arith, inv.2, c.put_write-position.ensures.1, c.loop-i-test.true),
    )

pub shape_of-buffer : goal.shape_of-buffer
shape_of-buffer c = c.loop-i.invariant.0.long

pub returns : goal.returns
returns c = stored_all (goal.at.returns c).At-loop-i (walked_none _ _ _ (c.args.count - c.loop-i.i) (omega (arith, c.loop-i-test.false)))
