-- `fsck_names::tally_sector` meets its contract. What is left to count, from slot `index` on, gives the whole.
use Rattle.std.proofs.Common.{ℕ, List, ◌≡◌}
use Rattle.format.specs.Layout.{Slot, in_use}
use Rattle.geometry.specs.Meaning.{sectors_of}
use Rattle.slots.specs.InOrder.{slots_from}
use Rattle.fsck_names.specs.Tally.{tallied}
use Rattle.fsck_names.proofs.tally_sector.Given as goal

abbrev pub invariant-loop-index : goal.invariant-loop-index
invariant-loop-index l =
    let left : ℕ → List Slot = λ k. in_use (slots_from (sectors_of l.g l.image) l.n.0 k) in
    tallied 16384 l.table (left l.index) ≡ tallied 16384 l.initial.table (left 0)
