-- `disc::address_at` meets its contract.
use Rattle.std.proofs.Common.{arith}
use Rattle.format.proofs.GeometryLaws.{track_range, sector_range}
use Rattle.geometry.specs.Meaning.{geo}
use Rattle.disc.proofs.address_at.Goals as goal

pub overflow_cast-result : goal.overflow_cast-result
overflow_cast-result c = omega (arith, track_range (geo c.args.g) c.requires.0.some_on_track c.args.n.0 (omega arith))

pub overflow_add-result : goal.overflow_add-result
overflow_add-result c = omega (arith, sector_range (geo c.args.g) c.requires.0.some_on_track c.args.n.0)

pub overflow_cast-result-2 : goal.overflow_cast-result-2
overflow_cast-result-2 c = omega (arith, sector_range (geo c.args.g) c.requires.0.some_on_track c.args.n.0)
