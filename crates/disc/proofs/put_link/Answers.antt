-- `disc::put_link` meets its contract.
use Rattle.disc.proofs.put_link.Goals as goal

pub returns : goal.returns
returns c = rw (← c.address_of-address.ensures.0, ← c.address_of-address.ensures.1) c.put.ensures
