-- `repairing::repair_on` meets its contract.
use Rattle.format.proofs.CallLaws.{repair_refused, repair_done}
use Rattle.geometry.specs.Meaning.{geo, sectors_of}
use Rattle.geometry.specs.Laws.{image_kept}
use Rattle.disc.specs.Laws.{inside}
use Rattle.answers.specs.Laws.{refuses_leaves, done_leaves}
use Rattle.repairing.specs.Laws.{repaired}
use Rattle.repairing.proofs.repair_on.Goals as goal

pub returns-in_default : goal.returns-in_default
returns-in_default c =
    let low = c.in_default.ensures in
    refuses_leaves _ _ _ _ (repair_refused _ _ _ low.is low.some low.few)

pub put_system-requires : goal.put_system-requires
put_system-requires c =
    let image = c.requires in
    (image_kept image c.thread-chain.ensures.kept, inside image.valid c.pointed_at-pointer.result _ _ c.pointed_at-pointer.ensures)

pub returns : goal.returns
returns c =
    let a = c.args in
    let s = c.in-Ok.ensures in
    done_leaves a.g a.image.now _ _ _ (repair_done (geo a.g) (sectors_of a.g a.image.now) s.to5)
    (repaired c.requires s c.thread-chain.ensures c.pointed_at-pointer.result c.pointed_at-pointer.ensures _ c.put_system.ensures)
