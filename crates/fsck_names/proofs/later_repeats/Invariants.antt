-- `fsck_names::later_repeats` meets its contract. The answer hangs on the sectors that the walk still meets.
use Rattle.std.proofs.Common.{Bool, ◌≡◌}
use Rattle.geometry.specs.Meaning.{sectors_of}
use Rattle.slots.specs.Meaning.{slot_of}
use Rattle.directory.specs.declared.walk.Sectors.{Sectors}
use Rattle.directory.specs.Meaning.{MeetsDisc, entries_left}
use Rattle.fsck_names.specs.Differ.{named}
use Rattle.fsck_names.proofs.later_repeats.Given as goal

abbrev pub invariant-loop-m : goal.invariant-loop-m
invariant-loop-m l =
    let left : Sectors → Bool = λ w. named (slot_of (sectors_of l.fn.g l.image) l.fn.slot) (entries_left l.fn.g l.image w) in
    MeetsDisc l.fn.g l.m-iterator × (left l.m-iterator ≡ left l.fn.rest)
