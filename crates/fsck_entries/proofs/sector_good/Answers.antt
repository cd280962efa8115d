-- `fsck_entries::sector_good` meets its contract.
use Rattle.std.proofs.Common.{arith, sym, ◌∙◌}
use Rattle.fsck_entries.specs.Good.{passed_none, passed_free, passed_used, entry_bad, passed_all}
use Rattle.fsck_entries.proofs.sector_good.Goals as goal

pub loop-index-init : goal.loop-index-init
loop-index-init c = record { few = omega arith; passed = passed_none _ _ }

pub loop-index-preserved-then-slot_free : goal.loop-index-preserved-then-slot_free
loop-index-preserved-then-slot_free c =
    record { few = omega arith; passed = passed_free c.loop-index.invariant.passed c.loop-index-test.true (sym c.slot_free.ensures ∙ c.if-slot_free.true) }

pub returns-then-not-entry_good : goal.returns-then-not-entry_good
returns-then-not-entry_good c =
    let used = sym c.slot_free.ensures ∙ c.if-slot_free.false in
    entry_bad c.loop-index.invariant.passed c.loop-index-test.true used _ (sym c.entry_good.ensures ∙ c.if-not-entry_good.true)

pub loop-index-preserved : goal.loop-index-preserved
loop-index-preserved c =
    let used = sym c.slot_free.ensures ∙ c.if-slot_free.false in
    let good = sym c.entry_good.ensures ∙ c.if-not-entry_good.false in
    record { few = omega arith; passed = passed_used c.loop-index.invariant.passed c.loop-index-test.true used good }

pub returns : goal.returns
returns c = passed_all c.loop-index.invariant.passed _ c.loop-index-test.false _ c.in_use_of.ensures
