-- `disc::byte_in` meets its contract.
use Rattle.geometry.specs.Laws.{byte_at}
use Rattle.disc.specs.Laws.{lies_starts}
use Rattle.disc.proofs.byte_in.Goals as goal

pub returns : goal.returns
returns c = byte_at c.requires.0 (lies_starts c.requires.1) c.requires.1.on c.args.k c.requires.2
