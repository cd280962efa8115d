-- `geometry::number_of` meets its contract. Nothing wraps: the number is below that of all sectors.
use Rattle.std.proofs.Common.{arith}
use Rattle.format.proofs.GeometryLaws.{on_disc_is}
use Rattle.geometry.specs.Laws.{number_on}
use Rattle.geometry.specs.Meaning.{geo}
use Rattle.geometry.proofs.number_of.Goals as goal

pub overflow_mul-result : goal.overflow_mul-result
overflow_mul-result c =
    let a = c.args in
    omega (arith, number_on c.requires.0 a.track a.sector c.requires.1)

pub overflow_add-result : goal.overflow_add-result
overflow_add-result c =
    let a = c.args in
    omega (arith, number_on c.requires.0 a.track a.sector c.requires.1)

pub overflow_sub-result : goal.overflow_sub-result
overflow_sub-result c =
    let a = c.args in
    omega (arith, (on_disc_is (geo a.g) a.track a.sector c.requires.1).1)
