-- `passing::stop_on` meets its contract. Nothing wraps: a sector ends within the image.
use Rattle.std.proofs.Common.{◌≡◌, true, ◌+◌, ◌*◌, ◌/◌, ◌%◌, arith}
use Rattle.format.specs.Geometry.{sector_number, on_disc}
use Rattle.format.proofs.GeometryLaws.{is_on_disc}
use Rattle.geometry.specs.Meaning.{geo, Starts}
use Rattle.geometry.specs.Laws.{number_on, starts_at}
use Rattle.disc.specs.Laws.{lies}
use Rattle.passing.proofs.stop_on.Goals as goal
use Rattle.passing.proofs.stop_on.Goals.{Start}

on : (c : Start) → on_disc (geo c.args.g) c.args.track (c.args.stop % 256) ≡ true
on c = let w = c.requires.2.on_track in is_on_disc (geo c.args.g) _ _ c.requires.1 w.0 w.1

-- where the sector starts, and that it ends within the image
placed : (c : Start) → Starts c.args.g (sector_number (geo c.args.g) c.args.track (c.args.stop % 256))
    (256 * (c.args.g.per_track * c.args.track) + c.args.stop / 256 * 256)
placed c =
    let s = starts_at c.requires.0 c.args.track (c.args.stop % 256) (on c) in
    record { at = omega (arith, s.at, c.requires.2.at); fits = omega (arith, s.fits, c.requires.2.at) }

pub number_of-number-requires : goal.number_of-number-requires
number_of-number-requires c = (c.requires.0, on c)

pub overflow_mul-result : goal.overflow_mul-result
overflow_mul-result c = omega (arith, (placed (goal.at.overflow_mul-result c).Start).fits)

pub overflow_mul-result-2 : goal.overflow_mul-result-2
overflow_mul-result-2 c = omega (arith, (placed (goal.at.overflow_mul-result-2 c).Start).fits)

pub overflow_add-result : goal.overflow_add-result
overflow_add-result c = omega (arith, (placed (goal.at.overflow_add-result c).Start).fits)

pub returns : goal.returns
returns c =
    let v = c.requires.0 in
    let is = c.number_of-number.ensures in
    (is, lies _ (omega (arith, is, number_on v c.args.track (c.args.stop % 256) (on (goal.at.returns c).Start))) (rw is (placed (goal.at.returns c).Start)))
