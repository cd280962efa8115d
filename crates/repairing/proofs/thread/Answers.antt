-- `repairing::thread` meets its contract: from the first position of a track on, the chain is written.
use Rattle.std.proofs.Common.{arith, refl, sym}
use Rattle.repairing.specs.Meaning.{thread_start}
use Rattle.repairing.proofs.thread.Goals as goal

pub loop-track-init : goal.loop-track-init
loop-track-init c =
    let v = c.requires.valid in
    record { few = omega arith; threaded = thread_start v _ _ _ (sym v.total) _ refl refl }
