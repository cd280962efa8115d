-- `disc::byte_of` meets its contract.
use Rattle.geometry.specs.Laws.{byte_at}
use Rattle.disc.proofs.byte_of.Goals as goal

pub returns : goal.returns
returns c = byte_at c.requires.0 c.start_of.ensures c.requires.1 c.args.k c.requires.2
