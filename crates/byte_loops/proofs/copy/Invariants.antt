-- `byte_loops::copy` meets its contract. The loop's invariant: storing what is left of `from` gives what storing all of it gives at the start.
use Rattle.std.proofs.Common.{◌≡◌, ◌+◌, length, drop}
use Rattle.std.proofs.lemmas.List.Edits.{sets}
use Rattle.byte_loops.proofs.copy.Given as goal

abbrev pub invariant-loop-i : goal.invariant-loop-i
invariant-loop-i l = (length l.to ≡ length l.initial.to) × (sets l.to (l.at + l.i) (drop l.i l.from) ≡ sets l.initial.to l.at l.from)
