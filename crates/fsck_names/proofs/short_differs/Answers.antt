-- `fsck_names::short_differs` meets its contract.
use Rattle.fsck_names.specs.Tally.{covers_two}
use Rattle.fsck_names.proofs.short_differs.Goals as goal

pub directory_differs-requires : goal.directory_differs-requires
directory_differs-requires c = (c.requires, covers_two _)
