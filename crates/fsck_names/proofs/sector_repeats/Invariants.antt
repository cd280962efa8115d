-- `fsck_names::sector_repeats` meets its contract. The answer hangs on the slots from `index` on.
use Rattle.std.proofs.Common.{ℕ, Bool, ◌≡◌}
use Rattle.format.specs.Layout.{in_use}
use Rattle.geometry.specs.Meaning.{sectors_of}
use Rattle.slots.specs.InOrder.{slots_from}
use Rattle.slots.specs.Meaning.{slot_of}
use Rattle.fsck_names.specs.Differ.{named}
use Rattle.fsck_names.proofs.sector_repeats.Given as goal

abbrev pub invariant-loop-index : goal.invariant-loop-index
invariant-loop-index l =
    let d = sectors_of l.g l.image in
    let from : ℕ → Bool = λ k. named (slot_of d l.slot) (in_use (slots_from d l.m.0 k)) in
    from l.index ≡ from l.first
