-- `disc::put` meets its contract.
use Rattle.disc.proofs.put.Goals as goal

pub returns : goal.returns
returns c = rw c.sector_of.ensures.0 at c.put_in.ensures
