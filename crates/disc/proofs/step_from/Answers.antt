-- `disc::step_from` meets its contract.
use Rattle.std.proofs.Common.{ap₂, ◌∙◌}
use Rattle.format.specs.Geometry.{pointed}
use Rattle.geometry.specs.Laws.{link_at}
use Rattle.disc.specs.Laws.{lies_starts}
use Rattle.disc.proofs.step_from.Goals as goal

pub returns : goal.returns
returns c =
    let bytes = link_at c.requires.0 (lies_starts c.requires.1) c.requires.1.on in
    (c.step_at.ensures.0 ∙ ap₂ (pointed _) bytes.0 bytes.1, c.step_at.ensures.1)
