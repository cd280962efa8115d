-- `geometry::moved_places` meets its contract.
use Rattle.std.proofs.Common.{arith}
use Rattle.format.specs.Geometry.{stated, ten_moved, ten}
use Rattle.geometry.specs.Laws.{places_step, places_done}
use Rattle.geometry.proofs.moved_places.Goals as goal

pub overflow_add-places-in-loop-i : goal.overflow_add-places-in-loop-i
unfolding stated ten_moved ten
overflow_add-places-in-loop-i c = omega (arith, places_step c.loop-i.i c.loop-i-test.true)

pub loop-i-preserved : goal.loop-i-preserved
unfolding stated ten_moved ten
loop-i-preserved c = omega (arith, places_step c.loop-i.i c.loop-i-test.true)

pub returns : goal.returns
returns c = places_done _ _ c.loop-i.auto.i-end c.loop-i-test.false c.loop-i.invariant
