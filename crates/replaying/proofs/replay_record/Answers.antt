-- `replaying::replay_record` meets its contract.
use Rattle.std.proofs.Common.{arith, ap₂, ◌∙◌, set, drop, length-take, length-drop}
use Rattle.geometry.specs.Meaning.{sectors_of}
use Rattle.std.proofs.lemmas.List.{take_all}
use Rattle.replaying.specs.Laws.{record_on, number_inside}
use Rattle.replaying.proofs.replay_record.Goals as goal

pub number_of-n-requires : goal.number_of-n-requires
number_of-n-requires c = (c.requires.0.valid, record_on _ _ c.requires.1)

pub put_sector-requires : goal.put_sector-requires
put_sector-requires c =
    let inside = number_inside c.args.bytes.now c.requires.0.valid c.requires.1 in
    (c.requires.0, omega (arith, c.number_of-n.ensures, inside), simp (length-take, length-drop) (omega (arith, c.told-bytes)))

pub returns : goal.returns
returns c =
    let r = c.args.bytes.now in
    c.put_sector.ensures
    ∙ ap₂ (set (sectors_of c.args.g c.args.image.now)) c.number_of-n.ensures (take_all 256 (drop 3 r) (omega (arith, c.told-bytes, length-drop 3 r)))
