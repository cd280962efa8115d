-- `blank::after_track` meets its contract.
use Rattle.std.proofs.Common.{arith, ℕ, ◌+◌, ◌*◌, ◌≡◌, refl, ap, ◌∙◌}
use Rattle.geometry.specs.Meaning.{geo}
use Rattle.passing.specs.Stops.{stop_sector}
use Rattle.passing.specs.Positions.{passed_first, passed_none}
use Rattle.blank.proofs.after_track.Goals as goal

pub returns-then-track-g : goal.returns-then-track-g
returns-then-track-g c =
    let v = c.requires.0 in
    let stop = c.requires.1.at 0 v.some_on_track in
    passed_first v (c.args.track + 1) c.if-track-g.true _ refl (c.sector_of_stop.ensures ∙ stop_sector v _ _ stop)

pub returns : goal.returns
returns c =
    let v = c.requires.0 in
    let last : c.args.g.tracks ≡ c.args.track + 1 = omega (arith, c.if-track-g.false, c.requires.2) in
    passed_none v _ (omega (arith, v.total, ap (λ (q : ℕ). (geo c.args.g).per_track * q) last)) _ refl refl
