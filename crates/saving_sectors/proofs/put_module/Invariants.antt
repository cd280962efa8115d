-- `saving_sectors::put_module` meets its contract. The loop's invariant: j of the sectors are written, as `Taking` says.
use Rattle.std.proofs.Common.{◌<◌}
use Rattle.format.specs.Layout.{free_pointer}
use Rattle.format.specs.Modules.{bodies}
use Rattle.geometry.specs.Meaning.{geo, sectors_of}
use Rattle.disc.specs.Meaning.{meaning, Inside}
use Rattle.modules.specs.Meaning.{module_of}
use Rattle.soundness.specs.ListedWrites.{file_taken}
use Rattle.saving_sectors.specs.Taking.{Taking}
use Rattle.saving_sectors.proofs.put_module.Given as goal

abbrev pub invariant-loop-j : goal.invariant-loop-j
invariant-loop-j l =
    let d = sectors_of l.g l.initial.image in
    let G = geo l.g in
    let m = module_of l.m l.sheet in
    Inside l.g l.at × (l.last.0 < l.g.sectors)
    × Taking G d (free_pointer G d) (file_taken G d m) (bodies m) l.j (meaning l.at) l.last.0 (sectors_of l.g l.image)
