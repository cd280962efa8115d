-- `entry_write::put_in_slot` meets its contract.
use Rattle.format.specs.Layout.{slot_at}
use Rattle.entry_write.proofs.put_in_slot.Goals as goal

pub returns : goal.returns
unfolding slot_at
returns c = rw (← c.slot_start.ensures) c.put.ensures
