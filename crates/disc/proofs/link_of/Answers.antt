-- `disc::link_of` meets its contract.
use Rattle.std.proofs.Common.{ap₂, ◌∙◌}
use Rattle.format.specs.Geometry.{pointed}
use Rattle.geometry.specs.Laws.{link_at}
use Rattle.disc.proofs.link_of.Goals as goal

pub returns : goal.returns
returns c =
    let bytes = link_at c.requires.0 c.start_of-start.ensures c.requires.1 in
    c.pointed_at.ensures ∙ ap₂ (pointed _) bytes.0 bytes.1
