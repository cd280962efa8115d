-- `passing::stop_at` meets its contract.
use Rattle.std.proofs.Common.{subst, ℕ, ◌+◌, ◌≤◌, arith}
use Rattle.format.proofs.Formats.{order_range}
use Rattle.geometry.specs.Laws.{good}
use Rattle.passing.specs.Meaning.{Stop}
use Rattle.passing.proofs.stop_at.Goals as goal
use Rattle.passing.proofs.stop_at.Goals.{After-order_at-sector}

on_track : (c : After-order_at-sector) → (1 ≤ c.order_at-sector.result) × (c.order_at-sector.result ≤ c.args.g.per_track)
on_track c =
    let w = order_range (good c.requires.0) c.args.i c.requires.1 in
    (omega (arith, w.0, c.order_at-sector.ensures), omega (arith, w.1, c.order_at-sector.ensures))

pub offset_of-requires : goal.offset_of-requires
offset_of-requires c = let v = c.requires.0 in (v, (on_track c).0, omega (arith, on_track c, v.few_on_track))

pub returns : goal.returns
returns c =
    let r : ℕ = c.offset_of.result + c.order_at-sector.result in
    subst (λ (s : ℕ). Stop c.args.g s r) c.order_at-sector.ensures
    (record { on_track = on_track (goal.at.returns c).After-order_at-sector; at = omega (arith, c.offset_of.ensures.0) })
