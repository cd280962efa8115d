-- `slots::last_of` meets its contract.
use Rattle.std.proofs.Common.{arith, sym, ◌∙◌}
use Rattle.format.specs.Layout.{last_offset}
use Rattle.disc.specs.Laws.{inside}
use Rattle.slots.specs.Fields.{slot_pair}
use Rattle.slots.proofs.last_of.Goals as goal

pub returns : goal.returns
returns c =
    let valid = c.requires.0.valid in
    let pair = c.pair_of.ensures in
    (pair ∙ sym (slot_pair _ _ _ _ c.slot_start.ensures last_offset (omega arith) _), inside valid c.pair_of.result _ _ pair)
