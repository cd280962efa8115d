-- `fsck_files::sector_files` meets its contract. What is left of the pass, from slot `index` on, decides.
use Rattle.std.proofs.Common.{◌*◌, ◌≤◌}
use Rattle.format.specs.Layout.{in_use}
use Rattle.geometry.specs.Meaning.{geo, sectors_of}
use Rattle.slots.specs.InOrder.{slots_from}
use Rattle.fsck_files.specs.Files.{Filing}
use Rattle.fsck_files.proofs.sector_files.Given as goal

abbrev pub invariant-loop-index : goal.invariant-loop-index
invariant-loop-index l =
    let d = sectors_of l.g l.image in
    (l.sum ≤ 800 * l.index) × Filing (geo l.g) d (in_use (slots_from d l.n.0 l.index)) l.marks l.sum (in_use (slots_from d l.n.0 0)) l.initial.marks
