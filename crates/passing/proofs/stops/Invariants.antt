-- `passing::stops` meets its contract.
use Rattle.std.proofs.Common.{◌≡◌, ℕ, ◌<◌, length, get_or}
use Rattle.geometry.specs.Meaning.{geo}
use Rattle.passing.specs.Meaning.{Stop}
use Rattle.passing.proofs.stops.Given as goal

abbrev pub invariant-loop-i : goal.invariant-loop-i
invariant-loop-i l =
    (length l.stops ≡ 10) × ((j : ℕ) → j < l.i → Stop l.g (get_or (geo l.g).order j 0) (get_or l.stops j 0))
