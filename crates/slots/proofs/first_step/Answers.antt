-- `slots::first_step` meets its contract.
use Rattle.std.proofs.Common.{arith, sym, ◌∙◌}
use Rattle.format.specs.Layout.{first_offset}
use Rattle.slots.specs.Fields.{slot_pair}
use Rattle.slots.proofs.first_step.Goals as goal

pub returns : goal.returns
returns c =
    let step = c.step_of.ensures in
    (step.0 ∙ sym (slot_pair _ _ _ _ c.slot_start.ensures first_offset (omega arith) _), step.1)
