-- `disc::step_at` meets its contract.
use Rattle.std.proofs.Common.{sym, ap, ◌∙◌, ne_eqb}
use Rattle.format.specs.Geometry.{go, pointed}
use Rattle.format.proofs.GeometryLaws.{pointed_stop}
use Rattle.disc.proofs.step_at.Goals as goal

pub returns-then-sector-eq0 : goal.returns-then-sector-eq0
returns-then-sector-eq0 c = (sym (pointed_stop _ _ _ c.if-sector-eq0.true), tt)

pub sector_at-requires : goal.sector_at-requires
sector_at-requires c = (c.requires, sym c.on_disc.ensures ∙ c.if-on_disc.true)

pub returns-then-on_disc : goal.returns-then-on_disc
unfolding pointed
returns-then-on_disc c = (
  simp (ne_eqb _ _ c.if-sector-eq0.false, sym c.on_disc.ensures ∙ c.if-on_disc.true)
      (ap go c.sector_at.ensures.0),
  c.sector_at.ensures.1,
)

pub returns : goal.returns
unfolding pointed
returns c = (simp (ne_eqb _ _ c.if-sector-eq0.false, sym c.on_disc.ensures ∙ c.if-on_disc.false), tt)
