-- `writes::put_chain` meets its contract. The loop's invariant: storing the records of what is left of the walk gives what storing all of them gives at the
-- start.
use Rattle.std.proofs.Common.{◌-◌, ◌+◌, ◌*◌, ◌≤◌, length}
use Rattle.geometry.specs.Meaning.{geo, sectors_of}
use Rattle.disc.specs.Meaning.{Reaches, led}
use Rattle.records.specs.Storing.{Storing}
use Rattle.writes.specs.Laws.{walked}
use Rattle.writes.proofs.put_chain.Given as goal

abbrev pub invariant-loop-i : goal.invariant-loop-i
invariant-loop-i l =
    Storing l.initial.buffer l.at (walked (geo l.g) (sectors_of l.g l.image) l.count (led l.initial.step)) l.buffer l.position
    (walked (geo l.g) (sectors_of l.g l.image) (l.count - l.i) (led l.step))
    × Reaches l.g l.step × (l.position + 259 * (l.count - l.i) ≤ length l.initial.buffer)
