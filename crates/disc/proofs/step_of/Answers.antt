-- `disc::step_of` meets its contract.
use Rattle.std.proofs.Common.{ap₂, ◌∙◌}
use Rattle.format.specs.Geometry.{pointed}
use Rattle.geometry.specs.Laws.{bytes_at}
use Rattle.disc.proofs.step_of.Goals as goal

pub returns : goal.returns
returns c =
    let bytes = bytes_at c.requires.0 c.start_of.ensures c.requires.1 c.args.k c.requires.2 in
    (c.step_at.ensures.0 ∙ ap₂ (pointed _) bytes.1 bytes.0, c.step_at.ensures.1)
