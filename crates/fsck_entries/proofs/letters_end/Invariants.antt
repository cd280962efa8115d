-- `fsck_entries::letters_end` meets its contract. The bytes before `i` are letters.
use Rattle.std.proofs.Common.{◌≡◌}
use Rattle.std.proofs.Math.Seq.{slice}
use Rattle.format.specs.Names.{spaced}
use Rattle.fsck_entries.proofs.letters_end.Given as goal

abbrev pub invariant-loop-i : goal.invariant-loop-i
invariant-loop-i l = spaced (slice l.at l.end l.image) ≡ spaced (slice l.i l.end l.image)
