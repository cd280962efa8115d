-- `view::start_of_view` meets its contract.
use Rattle.std.proofs.Common.{sym, ap, ◌∙◌, ℕ, ◌+◌, ◌≤◌, arith}
use Rattle.std.proofs.lemmas.Result.{err_from_is_err_and}
use Rattle.format.specs.Refusals.{ok}
use Rattle.format.specs.Geometry.{start_of}
use Rattle.geometry.specs.Meaning.{kind_of, form, geo}
use Rattle.geometry.specs.Laws.{Opened, opened, geometry_wrong}
use Rattle.view.specs.Laws.{view_size, view_absent, view_done}
use Rattle.view.proofs.start_of_view.Goals as goal
use Rattle.view.proofs.start_of_view.Goals.{In_ok-g, After-sector_at-at}

opening : (c : In_ok-g) → let a = c.args in Opened (kind_of a.stated) c.in_ok-g.g a.image.now
opening c = opened _ _ _ (sym c.in_ok-g.ensures)

-- the sector ends within the largest image
below : (c : After-sector_at-at) → c.sector_at-at.result.start + 256 ≤ 204800
below c = omega (arith, c.sector_at-at.ensures.1.fits, (opened _ _ _ (sym c.in_ok-g.ensures)).on_image.valid.few_sectors)

pub returns-in_err-g : goal.returns-in_err-g
returns-in_err-g c =
    let p = err_from_is_err_and c.from_residual.result c.from_residual.ensures.1 in
    rw (p.1, p.2) (sym (view_size _ c.args.image.now _ _ _ (geometry_wrong _ _ _ (sym c.in_err-g.ensures))))

pub returns-then-not-on_disc : goal.returns-then-not-on_disc
returns-then-not-on_disc c =
    let o = opening (goal.at.returns-then-not-on_disc c).In_ok-g in
    rw o.kind_is (sym (view_absent _ c.args.image.now _ _ _ o.geometry_is (sym c.if-not-on_disc.ensures)))

pub sector_at-at-requires : goal.sector_at-at-requires
sector_at-at-requires c = ((opening (goal.at.sector_at-at-requires c).In_ok-g).on_image.valid, sym c.if-not-on_disc.ensures)

pub overflow_cast-result : goal.overflow_cast-result
overflow_cast-result c = omega (arith, below c)

pub returns : goal.returns
returns c =
    let g = c.in_ok-g.g in
    let o = opening (goal.at.returns c).In_ok-g in
    let start = c.sector_at-at.ensures.1.at ∙ ap (start_of (form g) (geo g)) c.sector_at-at.ensures.0 in
    rw o.kind_is
    (ap (λ (k : ℕ). ok (record { at = k + 2; size = 254 })) start
    ∙ sym (view_done _ c.args.image.now _ _ _ o.geometry_is (sym c.if-not-on_disc.ensures)))
