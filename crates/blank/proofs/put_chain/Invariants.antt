-- `blank::put_chain` meets its contract: the writes that are left, written, always give the whole.
use Rattle.std.proofs.Common.{◌*◌, ◌≡◌, length}
use Rattle.geometry.specs.Meaning.{geo}
use Rattle.blank.specs.Links.{Linked}
use Rattle.blank.proofs.put_chain.Given as goal

abbrev pub invariant-loop-track : goal.invariant-loop-track
invariant-loop-track l = record {
  kept : length l.image ≡ length l.initial.image;
  links : Linked l.g ((geo l.g).per_track * 1) ((geo l.g).per_track * l.track) l.initial.image l.image;
}
