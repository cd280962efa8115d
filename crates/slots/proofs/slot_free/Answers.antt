-- `slots::slot_free` meets its contract.
use Rattle.std.proofs.Common.{ℕ, ◌+◌, ap₂, ◌∙◌}
use Rattle.slots.specs.Laws.{free_at}
use Rattle.slots.proofs.slot_free.Goals as goal

pub returns : goal.returns
returns c =
    let at = ap₂ (λ (j k : ℕ). j + k) c.start_of.ensures.at c.slot_start.ensures in
    c.are_zero.ensures ∙ free_at c.requires.0 c.args.slot.sector.0 c.args.slot.index _ c.requires.1 c.args.slot.in_sector at
