-- `fsck_names::sector_differs` meets its contract. The answer hangs on the slots from `index` on.
use Rattle.std.proofs.Common.{ℕ, ◌≡◌, ◌++◌, List}
use Rattle.format.specs.Layout.{Slot, in_use}
use Rattle.geometry.specs.Meaning.{sectors_of}
use Rattle.directory.specs.Meaning.{entries_left}
use Rattle.slots.specs.InOrder.{slots_from}
use Rattle.fsck_names.specs.Tally.{Covers}
use Rattle.fsck_names.specs.Differ.{apart}
use Rattle.fsck_names.proofs.sector_differs.Given as goal

abbrev pub invariant-loop-index : goal.invariant-loop-index
invariant-loop-index l =
    let here : ℕ → List Slot = λ k. in_use (slots_from (sectors_of l.g l.image) l.n.0 k) in
    let later : List Slot = entries_left l.g l.image l.rest in
    Covers l.table (here l.index ++ later) × (apart (here l.index) later ≡ apart (here 0) later)
