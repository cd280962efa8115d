-- `directory::search_sector` meets its contract. The loop's invariant: the first slot that passes from slot `index` on is the first of all.
use Rattle.std.proofs.Common.{◌≡◌, Bool}
use Rattle.format.specs.Geometry.{Disc}
use Rattle.format.specs.Layout.{Slot, slots_at}
use Rattle.directory.specs.Meaning.{first_that, Answers}
use Rattle.slots.specs.InOrder.{slots_from}
use Rattle.directory.proofs.search_sector.Given as goal

abbrev pub invariant-loop-index : goal.invariant-loop-index
invariant-loop-index g l =
    (d : Disc) (p : Slot → Bool) → Answers (λ k. k ≡ l.fn.n.0) d (goal.F-post g l.test) p
    → first_that p (slots_at d l.fn.n.0) ≡ first_that p (slots_from d l.fn.n.0 l.index)
