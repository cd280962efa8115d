-- `repairing::thread_track` meets its contract: at each turn the chain begins at position i of the track.
use Rattle.std.proofs.Common.{◌+◌, ◌*◌, ◌≡◌, length}
use Rattle.geometry.specs.Meaning.{geo}
use Rattle.repairing.specs.Meaning.{Extends, address_in}
use Rattle.repairing.proofs.thread_track.Given as goal

abbrev pub invariant-loop-i : goal.invariant-loop-i
invariant-loop-i l = record {
  kept : length l.image ≡ length l.initial.image;
  extends : Extends l.g l.marks ((geo l.g).per_track * (l.track + 1)) (address_in l.initial.link) l.initial.count l.initial.image
      ((geo l.g).per_track * l.track + l.i) (address_in l.link) l.count l.image;
}
