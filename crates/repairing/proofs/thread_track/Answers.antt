-- `repairing::thread_track` meets its contract: at each turn the chain begins at position i of the track.
use Rattle.std.proofs.Common.{rules, arith, ◌+◌, ◌*◌, ◌-◌, ◌<◌, ◌≡◌, refl, sym, ◌∙◌}
use Rattle.geometry.specs.Meaning.{geo}
use Rattle.passing.specs.Stops.{stop_sector}
use Rattle.passing.specs.Positions.{passed_here}
use Rattle.repairing.specs.Meaning.{address_in_is, extend_skip, extend_more}
use Rattle.repairing.proofs.thread_track.Goals as goal
use Rattle.repairing.proofs.thread_track.Goals.{In-loop-i}

on_track : (c : In-loop-i) → c.loop-i.i - 1 < (geo c.args.g).per_track
on_track c = omega arith

next : (c : In-loop-i) → (geo c.args.g).per_track * c.args.track + c.loop-i.i ≡ (geo c.args.g).per_track * c.args.track + (c.loop-i.i - 1) + 1
next c = omega arith

pub loop-i-preserved-then-is_met : goal.loop-i-preserved-then-is_met
loop-i-preserved-then-is_met c =
    let w = (goal.at.loop-i-preserved-then-is_met c).In-loop-i in
    let stop = c.requires.1.at _ (on_track w) in
    record {
      kept = c.loop-i.invariant.kept;
      extends = extend_skip c.requires.0.valid c.args.track _ c.requires.2 (on_track w) _ stop _ c.stop_on-sector.ensures.0 _ (next w)
          c.loop-i.invariant.extends c.if-is_met.true;
    }

pub loop-i-preserved : goal.loop-i-preserved
loop-i-preserved c =
    let w = (goal.at.loop-i-preserved c).In-loop-i in
    let v = c.requires.0.valid in
    let stop = c.requires.1.at _ (on_track w) in
    let first = passed_here v c.args.track _ c.requires.2 (on_track w) _ refl (c.sector_of_stop.ensures ∙ stop_sector v _ _ stop) in
    let link = rw (sym (address_in_is _ c.word-link-in-loop-i.ensures (search rules) (search rules))) at first in
    record {
      kept = search rules;
      extends = extend_more v c.args.track _ c.requires.2 (on_track w) _ stop _ c.stop_on-sector.ensures.0 _ (next w)
          c.loop-i.invariant.extends c.if-is_met.false link (search rules)
          (rw c.to_le_bytes.ensures at c.put_in.ensures);
    }
