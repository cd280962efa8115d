-- `replaying::replay_records` meets its contract.
use Rattle.std.proofs.Common.{◌≡◌, ◌-◌, length, take, drop, rules, arith, ◌∙◌, length-drop}
use Rattle.std.proofs.Math.Seq.{take-length}
use Rattle.geometry.specs.Meaning.{geo, sectors_of}
use Rattle.geometry.specs.Laws.{image_kept}
use Rattle.replaying.specs.Laws.{on_record, on_rest, on_replayed, end_replayed}
use Rattle.replaying.proofs.replay_records.Goals as goal

pub replay_record-requires : goal.replay_record-requires
replay_record-requires c =
    let cut = c.in-Some.ensures.cases in
    (image_kept c.requires.0 c.loop-first.invariant.kept, rw cut.0 (on_record (geo c.args.g) _ (omega arith) c.loop-first.invariant.list_is))

pub loop-first-preserved : goal.loop-first-preserved
loop-first-preserved c =
    let G = geo c.args.g in
    let cut = c.in-Some.ensures.cases in
    let l = c.loop-first in
    let more = on_rest G l.unwritten.now (omega arith) l.invariant.list_is in
    let wrote = on_replayed G l.unwritten.now (omega arith) l.invariant.list_is _ _ (rw cut.0 at c.replay_record.ensures) ∙ l.invariant.sectors_are in
    let whole : take (length l.unwritten.now - 259) (drop 259 l.unwritten.now) ≡ drop 259 l.unwritten.now =
    rw (← length-drop 259 l.unwritten.now) (take-length (drop 259 l.unwritten.now)) in
    record { kept = search rules; list_is = search (rules, cut.1, whole, more); sectors_are = search (rules, cut.1, whole, wrote) }

pub returns : goal.returns
returns c =
    let a = c.args in
    end_replayed (geo a.g) _ (omega (arith, c.in_default.ensures.cases)) (sectors_of a.g c.loop-first.image) ∙ c.loop-first.invariant.sectors_are
