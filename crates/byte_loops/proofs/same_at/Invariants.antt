-- `byte_loops::same_at` meets its contract. The answer hangs on what is left of the part and of `these`.
use Rattle.std.proofs.Common.{◌≡◌, length, take, drop}
use Rattle.lists.specs.Lists.{same}
use Rattle.byte_loops.proofs.same_at.Given as goal

abbrev pub invariant-loop-i : goal.invariant-loop-i
invariant-loop-i l =
    same (take (length l.these) (drop l.at l.bytes)) l.these ≡ same (drop l.i (take (length l.these) (drop l.at l.bytes))) (drop l.i l.these)
