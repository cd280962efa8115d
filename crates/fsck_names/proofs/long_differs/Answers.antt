-- `fsck_names::long_differs` meets its contract.
use Rattle.std.proofs.Common.{ℕ, arith, sym, ap, ◌∙◌, length}
use lib.ListN.{length-replicate}
use Rattle.fsck_names.specs.Tally.{tally_long, covers_tallied}
use Rattle.fsck_names.proofs.long_differs.Goals as goal

pub slice_bounds-directory_differs-end : goal.slice_bounds-directory_differs-end
slice_bounds-directory_differs-end c = sym (ap length c.tally_names.ensures ∙ tally_long _ _ _ ∙ length-replicate {A = ℕ} 16384 0)

pub directory_differs-requires : goal.directory_differs-requires
directory_differs-requires c = (c.requires, covers_tallied 16384 _ _ (length-replicate {A = ℕ} 16384 0) (omega arith) c.tally_names.ensures)
