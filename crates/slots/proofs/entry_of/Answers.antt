-- `slots::entry_of` meets its contract.
use Rattle.std.proofs.Common.{arith, sym, ◌∙◌}
use Rattle.format.specs.Layout.{first_offset}
use Rattle.disc.specs.Laws.{inside}
use Rattle.slots.specs.Fields.{slot_pair}
use Rattle.slots.proofs.entry_of.Goals as goal

pub returns : goal.returns
returns c =
    let pair = c.pair_of.ensures in
    let last = c.last_of.ensures in
    record {
      length_is = c.length_of.ensures;
      first_is = pair ∙ sym (slot_pair _ _ _ _ c.slot_start.ensures first_offset (omega arith) _);
      last_is = last.0;
      attribute_is = c.attribute_of.ensures;
      first_inside = inside c.requires.0.valid c.pair_of.result _ _ pair;
      last_inside = last.1;
    }
