-- `slots::attribute_of` meets its contract.
use Rattle.std.proofs.Common.{arith, sym, ◌∙◌}
use Rattle.format.specs.Layout.{attribute_offset}
use Rattle.slots.specs.Fields.{slot_byte}
use Rattle.slots.proofs.attribute_of.Goals as goal

pub returns : goal.returns
returns c = c.byte_of.ensures ∙ sym (slot_byte _ _ _ _ c.slot_start.ensures attribute_offset (omega arith))
