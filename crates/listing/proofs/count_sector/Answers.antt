-- `listing::count_sector` meets its contract.
use Rattle.std.proofs.Common.{arith, ap, sym, ◌∙◌, List, length}
use Rattle.format.specs.Layout.{Slot, in_use}
use Rattle.geometry.specs.Meaning.{sectors_of}
use Rattle.slots.specs.InOrder.{slots_all, use_next_free, use_next_used, use_over}
use Rattle.listing.specs.Laws.{used_few}
use Rattle.listing.proofs.count_sector.Goals as goal
use Rattle.listing.proofs.count_sector.Goals.{then-not-slot_free, else-not-slot_free}

pub loop-index-init : goal.loop-index-init
loop-index-init c = omega (arith, ap (λ (ss : List Slot). length (in_use ss)) (slots_all (sectors_of c.args.g c.args.image.now) c.args.n.0))

pub overflow_add-count : goal.overflow_add-count
overflow_add-count c =
    let d = sectors_of c.args.g c.args.image.now in
    let used = ap length (use_next_used d c.args.n.0 _ c.loop-index-test.true (sym c.slot_free.ensures ∙ c.if-not-slot_free.true)) in
    omega (arith, used, used_few d c.args.n.0)

pub loop-index-preserved : goal.loop-index-preserved
loop-index-preserved c =
    let d = sectors_of c.args.g c.args.image.now in
    elim c.if-not-slot_free.branch [
      | then-not-slot_free w ↦
          omega (arith, w.count-is, ap length (use_next_used d c.args.n.0 _ c.loop-index-test.true (sym c.slot_free.ensures ∙ w.if-not-slot_free.true)))
      | else-not-slot_free w ↦
          omega (arith, w.count-is, ap length (use_next_free d c.args.n.0 _ c.loop-index-test.true (sym c.slot_free.ensures ∙ w.if-not-slot_free.false)))
    ]

pub returns : goal.returns
returns c = omega (arith, ap length (use_over (sectors_of c.args.g c.args.image.now) c.args.n.0 c.loop-index.index c.loop-index-test.false))
