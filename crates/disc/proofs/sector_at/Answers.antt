-- `disc::sector_at` meets its contract. Nothing wraps: a sector ends within the image.
use Rattle.std.proofs.Common.{sym, subst, ℕ, ◌+◌, ◌*◌, ◌≤◌, arith}
use Rattle.format.specs.Geometry.{sector_number}
use Rattle.format.proofs.GeometryLaws.{on_disc_is}
use Rattle.geometry.specs.Meaning.{geo, place_in, Starts}
use Rattle.geometry.specs.Laws.{number_on, starts_at}
use Rattle.disc.specs.Laws.{lies}
use Rattle.disc.proofs.sector_at.Goals as goal
use Rattle.disc.proofs.sector_at.Goals.{Start}

-- where the sector starts, and that it ends within the image
placed : (c : Start) → Starts c.args.g (sector_number (geo c.args.g) c.args.track c.args.sector)
    (256 * (c.args.g.per_track * c.args.track) + 256 * place_in c.args.g.arrangement c.args.sector)
placed c = starts_at c.requires.0 c.args.track c.args.sector c.requires.1

on_track : (c : Start) → (1 ≤ c.args.sector) × (c.args.sector ≤ 10)
on_track c =
    let on = on_disc_is (geo c.args.g) c.args.track c.args.sector c.requires.1 in
    (on.1, omega (arith, on.2, c.requires.0.few_on_track))

pub offset_of-offset-requires : goal.offset_of-offset-requires
offset_of-offset-requires c =
    (c.requires.0, (on_track (goal.at.offset_of-offset-requires c).Start).0, (on_track (goal.at.offset_of-offset-requires c).Start).1)

pub overflow_mul-result : goal.overflow_mul-result
overflow_mul-result c = omega (arith, (placed (goal.at.overflow_mul-result c).Start).fits)

pub overflow_mul-result-2 : goal.overflow_mul-result-2
overflow_mul-result-2 c = omega (arith, (placed (goal.at.overflow_mul-result-2 c).Start).fits)

pub overflow_add-result : goal.overflow_add-result
overflow_add-result c = omega (arith, (placed (goal.at.overflow_add-result c).Start).fits, c.offset_of-offset.ensures.0)

pub returns : goal.returns
returns c =
    let a = c.args in
    let v = c.requires.0 in
    let n : ℕ = sector_number (geo a.g) a.track a.sector in
    let at = subst (λ (p : ℕ). Starts a.g n (256 * (a.g.per_track * a.track) + p)) (sym c.offset_of-offset.ensures.0) (placed (goal.at.returns c).Start) in
    (c.number_of-number.ensures, lies _ (omega (arith, c.number_of-number.ensures, number_on v a.track a.sector c.requires.1)) (rw c.number_of-number.ensures at))
