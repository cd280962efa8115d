-- `fsck::files_stand` meets its contract.
use Rattle.std.proofs.Common.{ap, List, ℕ, set}
use Rattle.fsck_chains.specs.Marks.{marked}
use Rattle.fsck.specs.Rules.{marks_of}
use Rattle.fsck.proofs.files_stand.Goals as goal

pub directory_broken-requires : goal.directory_broken-requires
unfolding marks_of marked
directory_broken-requires c = (c.requires.0, ap (λ (m : List ℕ). set m 0 1) c.requires.1)
