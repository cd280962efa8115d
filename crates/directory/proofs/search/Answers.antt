-- `directory::search` meets its contract.
use Rattle.std.proofs.Common.{arith, ap, sym, ◌∙◌, ℕ, List}
use Rattle.format.specs.Layout.{slots_of}
use Rattle.geometry.specs.Meaning.{geo, sectors_of}
use Rattle.directory.specs.Meaning.{first_that}
use Rattle.directory.specs.Laws.{loop_starts, loop_goes, slots_none, slots_are, search_here, search_on, within_disc}
use Rattle.directory.proofs.search.Goals as goal

pub loop-n-init : goal.loop-n-init
loop-n-init g c =
    let d = sectors_of c.args.g c.args.image.now in
    let start = loop_starts c.requires.0 c.into_iter-n-iterator.ensures.into_iter_gives c.sectors-n-items.ensures.all in
    (start.0, λ p as_p. ap (first_that p) (slots_are (geo c.args.g) d ∙ ap (slots_of d) (sym start.1)))

pub search_sector-found-requires : goal.search_sector-found-requires
search_sector-found-requires g c = λ s here. c.requires.1 s (omega (arith, (loop_goes c.args.g _ _ c.loop-n.invariant.0 c.in-Some.ensures.steps).0))

pub returns-then-is_some-clause-first : goal.returns-then-is_some-clause-first
returns-then-is_some-clause-first g c = λ p as_p.
    let d = sectors_of c.args.g c.args.image.now in
    let on = (loop_goes c.args.g _ _ c.loop-n.invariant.0 c.in-Some.ensures.steps).0 in
    let found = c.search_sector-found.ensures.first d p (λ s r here. as_p s r (omega arith)) in
    search_here p d c.in-Some.n.0 _ _ (sym c.is_some.ensures ∙ c.if-is_some.true) found
    ∙ sym (c.loop-n.invariant.1 p as_p ∙ ap (λ (ns : List ℕ). first_that p (slots_of d ns)) c.in-Some.ensures.steps)

pub returns-then-is_some-clause-within : goal.returns-then-is_some-clause-within
returns-then-is_some-clause-within g c =
    within_disc c.args.g.sectors c.in-Some.n.0 (loop_goes c.args.g _ _ c.loop-n.invariant.0 c.in-Some.ensures.steps).0 _ c.search_sector-found.ensures.within

pub loop-n-preserved : goal.loop-n-preserved
loop-n-preserved g c =
    let on = loop_goes c.args.g _ _ c.loop-n.invariant.0 c.in-Some.ensures.steps in (
      on.1,
      λ p as_p.
          let d = sectors_of c.args.g c.args.image.now in
          let found = c.search_sector-found.ensures.first d p (λ s r here. as_p s r (omega (arith, on.0))) in
          let later = search_on p d c.in-Some.n.0 _ _ (sym c.is_some.ensures ∙ c.if-is_some.false) found in
          c.loop-n.invariant.1 p as_p ∙ ap (λ (ns : List ℕ). first_that p (slots_of d ns)) c.in-Some.ensures.steps ∙ later,
    )

pub returns-clause-first : goal.returns-clause-first
returns-clause-first g c = λ p as_p.
    let d = sectors_of c.args.g c.args.image.now in
    sym (c.loop-n.invariant.1 p as_p ∙ ap (first_that p) (ap (slots_of d) c.in-None.ensures.steps.0 ∙ slots_none d))
