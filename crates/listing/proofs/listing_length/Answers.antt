-- `listing::listing_length` meets its contract.
use Rattle.std.proofs.Common.{arith}
use Rattle.listing.specs.Laws.{listing_long}
use Rattle.listing.proofs.listing_length.Goals as goal

pub returns : goal.returns
returns c = omega (arith, c.count_entries.ensures.0, listing_long c.requires)
