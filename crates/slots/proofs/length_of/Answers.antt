-- `slots::length_of` meets its contract.
use Rattle.std.proofs.Common.{arith, sym, ◌∙◌}
use Rattle.format.specs.Layout.{length_offset}
use Rattle.slots.specs.Fields.{slot_word}
use Rattle.slots.proofs.length_of.Goals as goal

pub returns : goal.returns
returns c = c.word_of.ensures ∙ sym (slot_word _ _ _ _ c.slot_start.ensures length_offset (omega arith))
