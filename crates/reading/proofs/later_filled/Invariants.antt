-- `reading::later_filled` meets its contract. The loop's invariant: the sectors that are left are filled just where all of them are.
use Rattle.std.proofs.Common.{◌≡◌, ◌-◌}
use Rattle.disc.specs.Meaning.{Lies}
use Rattle.reading.specs.Plain.{later_filled}
use Rattle.reading.specs.Meaning.{bodies_after, Followed}
use Rattle.reading.proofs.later_filled.Given as goal

abbrev pub invariant-loop-j : goal.invariant-loop-j
invariant-loop-j l =
    Followed l.g l.image l.s.number.0 (l.count - l.j)
    × (later_filled l.left (bodies_after l.g l.image l.s.number.0 (l.count - l.j))
    ≡ later_filled (l.length - 245) (bodies_after l.g l.image l.fn.first.number.0 (l.count - 1)))
    × Lies l.g l.s
