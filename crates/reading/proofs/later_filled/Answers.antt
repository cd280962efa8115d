-- `reading::later_filled` meets its contract.
use Rattle.std.proofs.Common.{sym, ap, ◌∙◌, ℕ, ◌+◌, ◌-◌, arith, List}
use Rattle.geometry.specs.Meaning.{geo, sectors_of}
use Rattle.reading.specs.Plain.{later_filled}
use Rattle.reading.specs.Meaning.{bodies_of, bodies_after}
use Rattle.reading.specs.FileLaws.{file_followed, followed_leads, followed_step, filled_step, filled_stop, none_follow}
use Rattle.reading.proofs.later_filled.Goals as goal

pub loop-j-init : goal.loop-j-init
loop-j-init c =
    let all = bodies_after c.args.g c.args.image.now c.args.first.number.0 (c.args.count - 1) in
    (file_followed c.requires.0, ap (λ (k : ℕ). later_filled k all) c.saturating_sub-left.ensures, c.requires.1)

pub next_of-s-requires : goal.next_of-s-requires
next_of-s-requires c = (c.requires.0.on_image, c.loop-j.invariant.2, followed_leads _ _ _ c.loop-j.invariant.0 c.loop-j-test.true)

pub returns-then-not-filled_at : goal.returns-then-not-filled_at
returns-then-not-filled_at c =
    let no = sym c.filled_at.ensures ∙ c.if-not-filled_at.true in
    sym (filled_stop c.loop-j.s.number.0 c.args.count c.loop-j.j c.loop-j.invariant.0 c.loop-j-test.true
    c.next_of-s.result.number.0 c.next_of-s.ensures.0 c.loop-j.left no)
    ∙ c.loop-j.invariant.1

pub loop-j-preserved : goal.loop-j-preserved
loop-j-preserved c =
    let a = c.args in
    let n : ℕ = c.loop-j.s.number.0 in
    let m : ℕ = c.next_of-s.result.number.0 in
    let f = c.loop-j.invariant.0 in
    let on = c.loop-j-test.true in
    let link = c.next_of-s.ensures.0 in
    let yes = sym c.filled_at.ensures ∙ c.if-not-filled_at.false in (
      followed_step n a.count c.loop-j.j f on m link c.next_of-s.ensures.1.on,
      ap (λ (k : ℕ). later_filled k (bodies_after a.g a.image.now m (a.count - (c.loop-j.j + 1)))) c.saturating_sub-left-in-loop-j.ensures
          ∙ filled_step n a.count c.loop-j.j f on m link c.loop-j.left yes
          ∙ c.loop-j.invariant.1,
      c.next_of-s.ensures.1,
    )

pub returns : goal.returns
unfolding later_filled
returns c =
    let d = sectors_of c.args.g c.args.image.now in
    let end = none_follow (geo c.args.g) d c.loop-j.s.number.0 (c.args.count - c.loop-j.j) (omega arith) in
    sym (ap (λ (ns : List ℕ). later_filled c.loop-j.left (bodies_of d ns)) end) ∙ c.loop-j.invariant.1
