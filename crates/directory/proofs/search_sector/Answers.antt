-- `directory::search_sector` meets its contract.
use Rattle.std.proofs.Common.{refl, sym, ap, ◌∙◌}
use Rattle.directory.specs.Meaning.{first_that}
use Rattle.slots.specs.InOrder.{slots_all, slots_end}
use Rattle.directory.specs.Laws.{first_here, first_next}
use Rattle.directory.proofs.search_sector.Goals as goal

pub loop-index-init : goal.loop-index-init
loop-index-init g c = λ d p as_p. ap (first_that p) (slots_all d c.args.n.0)

pub returns-then-test-clause-first : goal.returns-then-test-clause-first
returns-then-test-clause-first g c = λ d p as_p.
    let passes = sym (as_p _ _ refl c.test.ensures) ∙ c.if-test.true in
    sym (c.loop-index.invariant d p as_p ∙ first_here p d c.args.n.0 _ c.loop-index-test.true passes)

pub loop-index-preserved : goal.loop-index-preserved
loop-index-preserved g c = λ d p as_p.
    let fails = sym (as_p _ _ refl c.test.ensures) ∙ c.if-test.false in
    c.loop-index.invariant d p as_p ∙ first_next p d c.args.n.0 _ c.loop-index-test.true fails

pub returns-clause-first : goal.returns-clause-first
returns-clause-first g c = λ d p as_p. sym (c.loop-index.invariant d p as_p ∙ ap (first_that p) (slots_end d c.args.n.0 _ c.loop-index-test.false))
