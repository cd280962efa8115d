-- `saving_sectors::put_module` meets its contract. The loop's invariant: j of the sectors are written, as `Taking` says.
use Rattle.std.proofs.Common.{arith, ◌+◌, sym, ap, ◌∙◌, ltb, length}
use Rattle.format.proofs.ModuleLaws.{sectors_fit, bodies_many}
use Rattle.geometry.specs.Meaning.{sectors_of}
use Rattle.disc.specs.Meaning.{meaning}
use Rattle.geometry.specs.Laws.{image_kept}
use Rattle.disc.specs.Laws.{inside}
use Rattle.link_laws.specs.Links.{case_else, not_other, found_inside}
use Rattle.saving_sectors.specs.Links.{link_inside}
use Rattle.saving_sectors.specs.Taking.{taking_start, taking_to, taking_step, taking_end}
use Rattle.saving_sectors.specs.Writes.{file_linked}
use Rattle.saving_sectors.proofs.put_module.Goals as goal

pub loop-j-init : goal.loop-j-init
loop-j-init c =
    let valid = c.requires.0.image_of.valid in
    (inside valid c.args.pointer _ _ c.requires.2, valid.some_sectors, taking_start _ _ _ _ _ _ c.requires.2)

pub unreachable-requires : goal.unreachable-requires
unreachable-requires c =
    let file = file_linked c.requires.0 in
    let to = taking_to _ _ _ _ _ file.0 c.loop-j.invariant.2 (omega (arith, file.1, c.requires.1, c.loop-j-test.true)) in
    not_other c.loop-j.at to (case_else _ c.in_default.not-To)

pub put_nth-requires : goal.put_nth-requires
put_nth-requires c =
    let image = c.requires.0.image_of in
    let next_inside = inside image.valid c.link_of-next.result _ _ c.link_of-next.ensures in (
      image_kept image c.loop-j.auto.image,
      found_inside c.args.g c.in-To.is c.loop-j.invariant.0,
      link_inside c.args.g (ltb (c.loop-j.j + 1) c.args.count) c.link_in_file-link.result c.link_of-next.result next_inside c.link_in_file-link.ensures,
      c.requires.0.is_module,
      omega (arith, c.requires.1, c.loop-j-test.true),
    )

pub loop-j-preserved : goal.loop-j-preserved
loop-j-preserved c =
    let a = c.args in
    let file = file_linked c.requires.0 in
    let long = c.requires.1 ∙ sym file.1 in (
      inside c.requires.0.image_of.valid c.link_of-next.result _ _ c.link_of-next.ensures,
      found_inside a.g c.in-To.is c.loop-j.invariant.0,
      taking_step _ _ _ _ _ file.0 c.loop-j.invariant.2 (bodies_many _ ∙ sym file.1) (omega (arith, long, c.loop-j-test.true))
          _ (ap meaning c.in-To.is) _ c.link_of-next.ensures (sectors_of a.g c.put_nth.new.image)
          (rw (← long, ← c.link_in_file-link.ensures) c.put_nth.ensures),
    )

pub returns : goal.returns
returns c =
    let file = file_linked c.requires.0 in
    let end =
    taking_end _ _ _ _ _ file.0 c.loop-j.invariant.2
    (omega (arith, file.1, c.requires.1, c.loop-j-test.false)) (omega (arith, file.1, (sectors_fit (length c.args.sheet.now)).some_sector)) in
    record { sectors_are = end.0; last_is = end.1; last_inside = c.loop-j.invariant.1; next_is = end.2; next_inside = c.loop-j.invariant.0 }
