-- `reading::copy_module` meets its contract. The loop's invariant: storing what is left of the bytes gives what storing all of them gives at the start.
use Rattle.std.proofs.Common.{◌≡◌, ◌-◌, ◌≤◌, length, take}
use lib.Seq.{sets}
use Rattle.disc.specs.Meaning.{Lies}
use Rattle.reading.specs.Plain.{later_bytes}
use Rattle.reading.specs.Meaning.{bodies_after, Followed}
use Rattle.reading.proofs.copy_module.Given as goal

abbrev pub invariant-loop-j : goal.invariant-loop-j
invariant-loop-j l =
    Followed l.g l.image l.s.number.0 (l.count - l.j)
    × (l.at ≤ l.size)
    × (length l.buffer ≡ length l.initial.buffer)
    × (sets l.buffer l.at (take (l.size - l.at) (later_bytes (bodies_after l.g l.image l.s.number.0 (l.count - l.j))))
    ≡ sets l.initial.buffer l.initial.at (take (l.size - l.initial.at) (later_bytes (bodies_after l.g l.image l.fn.first.number.0 (l.count - 1)))))
    × Lies l.g l.s
