-- `directory::last_sector` meets its contract. The loop's invariant: what the walk still meets, with `last` before it, ends as the directory does.
use Rattle.std.proofs.Common.{◌≡◌, ◌<◌}
use Rattle.lists.specs.Lists.{last_or}
use Rattle.format.specs.Layout.{directory}
use Rattle.geometry.specs.Meaning.{geo, sectors_of}
use Rattle.directory.specs.Walk.{rest_of}
use Rattle.directory.specs.Meaning.{MeetsDisc}
use Rattle.directory.proofs.last_sector.Given as goal

abbrev pub invariant-loop-n : goal.invariant-loop-n
invariant-loop-n l =
    MeetsDisc l.fn.g l.n-iterator × (l.last.0 < l.fn.g.sectors)
    × (last_or 0 (directory (geo l.fn.g) (sectors_of l.fn.g l.image)) ≡ last_or l.last.0 (rest_of l.n-iterator))
