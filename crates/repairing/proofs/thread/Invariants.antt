-- `repairing::thread` meets its contract: from the first position of a track on, the chain is written.
use Rattle.std.proofs.Common.{◌+◌, ◌*◌, ◌≤◌}
use Rattle.geometry.specs.Meaning.{geo}
use Rattle.repairing.specs.Meaning.{Threaded}
use Rattle.repairing.proofs.thread.Given as goal

abbrev pub invariant-loop-track : goal.invariant-loop-track
invariant-loop-track l = record {
  few : l.chain.count + (geo l.g).per_track * l.track ≤ l.g.sectors;
  threaded : Threaded l.g l.marks l.initial.image ((geo l.g).per_track * l.track) l.chain.first l.chain.count l.image;
}
