-- Laws of views: their cases, and where the part that is shown lies.
-- Assumes nothing.
use Rattle.std.proofs.Common.{ap, arith}
use Rattle.std.specs.Prelude.{◌≡◌, refl, ℕ, ◌+◌, ◌≤◌, true, false, List, length, Ok, Err}
use Rattle.std.specs.Result.{result_unwrap_or}
use Rattle.std.specs.declared.result.Result.{Result}
use borrow.Author.Tests.{not-false}
use Rattle.format.specs.Refusals.{NO-SECTOR, refused, ok, value_or, ◌>>=◌, ◌>>◌, refuse◌if◌}
use Rattle.format.proofs.RefusalLaws.{ok_is, if_ok, then_ok}
use Rattle.format.specs.Geometry.{Format, Geometry, geometry, sector_number, on_disc, Part, body_part}
use Rattle.format.proofs.GeometryLaws.{geometry_ok, on_disc_is, number_below, place_below}
use Rattle.format.specs.Arrangements.{Arranged}
use Rattle.format.specs.Calls.{view, part_by}
use Rattle.refusals.specs.declared.Refusal as code
use Rattle.refusals.specs.Meaning.{reason}
use Rattle.view.specs.Meaning.{shown}

module _ (F : Format) (image : List ℕ) (t s : ℕ) where
  pub view_size : (e : code.Refusal) → geometry F (length image) ≡ refused (reason e) → view F image t s ≡ refused (reason e)
  unfolding view ◌>>=◌
  view_size e is = rw is

  module _ (G : Geometry) (e : geometry F (length image) ≡ ok G) where
    pub view_absent : on_disc G t s ≡ false → view F image t s ≡ refused NO-SECTOR
    unfolding view ◌>>=◌ ◌>>◌ refuse◌if◌
    view_absent h = simp (e, h)

    pub view_done : on_disc G t s ≡ true → view F image t s ≡ ok (body_part F G (sector_number G t s))
    unfolding view ◌>>=◌ ◌>>◌ refuse◌if◌
    view_done h = simp (e, h)

  -- the part that is shown lies in the image
  pub view_lies : ((G : Geometry) → geometry F (length image) ≡ ok G → Arranged F G) → (p : Part) → view F image t s ≡ ok p → p.at + p.size ≤ length image
  unfolding view
  view_lies arr p is =
      let g = then_ok _ _ is in
      let shown = if_ok NO-SECTOR _ _ g.2 in
      let i = geometry_ok F (length image) g.0 g.1 in
      let on = on_disc_is g.0 t s (not-false _ shown.0) in
      let number = number_below g.0 (omega (arith, on.1, on.2)) t s on.0 on.1 on.2 in
      let part : body_part F g.0 (sector_number g.0 t s) ≡ p = ok_is shown.1 in
      omega (arith, i.long, place_below F g.0 (arr g.0 g.1) (sector_number g.0 t s) number, ap (λ (p : Part). p.at) part, ap (λ (p : Part). p.size) part)

-- where the part starts, 0 with a refusal
pub start_is : (r : Result ℕ code.Refusal) → result_unwrap_or r 0 ≡ (part_by (shown r)).at
unfolding part_by value_or
start_is (Ok at) = refl
start_is (Err e) = refl
