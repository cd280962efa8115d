-- `view::view` meets its contract.
use Rattle.std.proofs.Common.{◌≡◌, refl, sym, ap, ℕ, ◌+◌, ◌-◌, arith, take, drop}
use Rattle.format.proofs.Formats.{stated_arranged}
use Rattle.format.specs.Calls.{part_by, view_part}
use Rattle.format.specs.Refusals.{value_or}
use Rattle.view.specs.Laws.{view_lies}
use Rattle.view.proofs.view.Goals as goal

pub slice_bounds-result-end : goal.slice_bounds-result-end
slice_bounds-result-end c = omega (arith, view_lies _ _ _ _ (stated_arranged _ _ _) _ (sym c.in-Ok.ensures))

pub returns-in-Ok : goal.returns-in-Ok
unfolding view_part part_by value_or
returns-in-Ok c =
    let start : ℕ = c.in-Ok.at in
    let size : start + 254 - start ≡ 254 = omega arith in
    rw (← c.in-Ok.ensures) (record { bytes = ap (λ (k : ℕ). take k (drop start c.args.image.now)) size; address = refl })

pub returns-in-Err : goal.returns-in-Err
unfolding view_part part_by value_or
returns-in-Err c = rw (← c.in-Err.ensures) (record { bytes = refl; address = refl })
