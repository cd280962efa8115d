-- `byte_loops::are_zero` meets its contract. `seen` has the bits of the bytes before `i`.
use Rattle.std.proofs.Common.{◌≡◌, ◌+◌, ◌&&◌, eqb}
use Rattle.std.proofs.Math.Seq.{slice}
use Rattle.lists.specs.Lists.{all}
use Rattle.byte_loops.proofs.are_zero.Given as goal

abbrev pub invariant-loop-i : goal.invariant-loop-i
invariant-loop-i l = eqb 0 l.seen && all (eqb 0) (slice (l.at + l.i) (l.at + l.count) l.bytes) ≡ all (eqb 0) (slice l.at (l.at + l.count) l.bytes)
