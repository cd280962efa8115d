-- `fsck_names::spread_of` meets its contract.
use Rattle.std.proofs.Common.{rules}
use Rattle.fsck_names.specs.Tally.{spread}
use Rattle.fsck_names.proofs.spread_of.Goals as goal

pub returns : goal.returns
unfolding spread
returns c = search rules
