-- `geometry::offset_of` meets its contract.
use Rattle.std.proofs.Common.{ap, ◌∙◌, ℕ, ◌*◌, ◌/◌, ◌%◌, ◌^◌, arith}
use Rattle.geometry.specs.Laws.{offset_in}
use Rattle.geometry.proofs.offset_of.Goals as goal

pub returns : goal.returns
returns c =
    let a = c.args in
    let v = c.requires.0 in
    let there = offset_in a.g.arrangement a.sector v.arranged_as c.requires.1 c.requires.2 in
    let is = ap (λ (p : ℕ). p / 2 ^ (4 * a.sector) / 256 % 16 * 256) v.placed_as ∙ there.0 in
    (is, omega (arith, is, there.1))
