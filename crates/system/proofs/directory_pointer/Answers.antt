-- `system::directory_pointer` meets its contract.
use Rattle.disc.specs.Laws.{inside}
use Rattle.system.proofs.directory_pointer.Goals as goal

pub returns : goal.returns
returns c = (c.pair_of.ensures, inside c.requires.valid c.pair_of.result _ _ c.pair_of.ensures)
