-- `blank::put_track` meets its contract: at each turn the links of the sectors before `here` are written.
use Rattle.std.proofs.Common.{◌+◌, ◌*◌, ◌≡◌, length, get_or}
use Rattle.geometry.specs.Meaning.{geo}
use Rattle.passing.specs.Meaning.{Stop}
use Rattle.blank.specs.Links.{Linked}
use Rattle.blank.proofs.put_track.Given as goal

abbrev pub invariant-loop-i : goal.invariant-loop-i
invariant-loop-i l = record {
  kept : length l.image ≡ length l.initial.image;
  here_is : Stop l.g (get_or (geo l.g).order l.i 0) l.here;
  links : Linked l.g ((geo l.g).per_track * l.track + l.first) ((geo l.g).per_track * l.track + l.i) l.initial.image l.image;
}
