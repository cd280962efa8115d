-- `geometry::moved_places` meets its contract. The loop's invariant: with the places that are still to be added, the sum is that of all.
use Rattle.std.proofs.Common.{◌+◌, ◌≡◌}
use Rattle.geometry.specs.Laws.{places_left}
use Rattle.geometry.proofs.moved_places.Given as goal

abbrev pub invariant-loop-i : goal.invariant-loop-i
invariant-loop-i l = l.places + places_left l.i ≡ places_left 0
