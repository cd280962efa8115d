-- `fsck_files::sector_files` meets its contract. What is left of the pass, from slot `index` on, decides.
use Rattle.std.proofs.Common.{arith, ◌+◌, ◌≡◌, sym, ◌∙◌, ◌∷◌}
use Rattle.format.specs.Layout.{in_use, slot_at}
use Rattle.geometry.specs.Meaning.{sectors_of}
use Rattle.slots.specs.InOrder.{slots_from, use_over, use_next_free, use_next_used}
use Rattle.fsck_files.specs.Files.{filing_over, filing_skip, filing_bad, filing_next}
use Rattle.fsck_files.proofs.sector_files.Goals as goal
use Rattle.fsck_files.proofs.sector_files.Goals.{Else-slot_free}

-- the entries that were left are this one and those after it
left : (c : Else-slot_free) → let a = c.args in
    let d = sectors_of a.g a.image.now in
    in_use (slots_from d a.n.0 c.loop-index.index) ≡ slot_at d a.n.0 c.loop-index.index ∷ in_use (slots_from d a.n.0 (c.loop-index.index + 1))
left c = use_next_used _ _ _ c.loop-index-test.true (sym c.slot_free.ensures ∙ c.if-slot_free.false)

pub loop-index-preserved-then-slot_free : goal.loop-index-preserved-then-slot_free
loop-index-preserved-then-slot_free c =
    (omega arith, filing_skip c.loop-index.invariant.1 (use_next_free _ _ _ c.loop-index-test.true (sym c.slot_free.ensures ∙ c.if-slot_free.true)))

pub returns-in_err-sum : goal.returns-in_err-sum
returns-in_err-sum c =
    rw c.from_residual.ensures
    (filing_bad c.loop-index.invariant.1 _ _ (left (goal.at.returns-in_err-sum c).Else-slot_free) c.in_err-sum.ensures)

pub loop-index-preserved : goal.loop-index-preserved
loop-index-preserved c =
    let next = filing_next c.loop-index.invariant.1 _ _ (left (goal.at.loop-index-preserved c).Else-slot_free) c.in_ok-sum.ensures in
    (omega (arith, c.in_ok-sum.ensures.few), next)

pub returns : goal.returns
returns c = filing_over c.loop-index.invariant.1 (use_over _ _ _ c.loop-index-test.false) (omega arith)
