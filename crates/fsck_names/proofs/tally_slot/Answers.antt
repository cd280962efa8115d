-- `fsck_names::tally_slot` meets its contract.
use Rattle.std.proofs.Common.{sym, ◌∙◌}
use Rattle.fsck_names.specs.Tally.{tally_free, tally_used}
use Rattle.fsck_names.proofs.tally_slot.Goals as goal

pub returns-then-slot_free : goal.returns-then-slot_free
returns-then-slot_free c = tally_free _ _ _ (sym c.slot_free.ensures ∙ c.if-slot_free.true)

pub returns : goal.returns
returns c =
    let used = sym c.slot_free.ensures ∙ c.if-slot_free.false in
    tally_used _ _ _ used _ c.slot_bucket-k.ensures.0 c.one_more.ensures
