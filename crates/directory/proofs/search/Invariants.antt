-- `directory::search` meets its contract. The loop's invariant: the first slot that passes of the sectors that the walk still meets is the first of all.
use Rattle.std.proofs.Common.{◌≡◌, ◌<◌, Bool}
use Rattle.format.specs.Layout.{Slot, slots_of, slots}
use Rattle.geometry.specs.Meaning.{geo, sectors_of}
use Rattle.directory.specs.Walk.{rest_of}
use Rattle.directory.specs.Meaning.{MeetsDisc, first_that, Answers}
use Rattle.directory.proofs.search.Given as goal

abbrev pub invariant-loop-n : goal.invariant-loop-n
invariant-loop-n g l =
    let d = sectors_of l.fn.g l.image in
    MeetsDisc l.fn.g l.n-iterator
    × ((p : Slot → Bool) → Answers (λ k. k < l.fn.g.sectors) d (goal.F-post g l.test) p
    → first_that p (slots (geo l.fn.g) d) ≡ first_that p (slots_of d (rest_of l.n-iterator)))
