-- `modules::part_len` meets its contract.
use Rattle.std.proofs.Common.{arith, length-drop, length-take, drop}
use Rattle.modules.proofs.part_len.Goals as goal

pub returns : goal.returns
returns c =
    let a = c.args in
    let long = length-take a.most (drop a.at a.bytes.now) in
    let left = length-drop a.at a.bytes.now in
    let m = c.min.ensures in
    record { long = omega arith; few = omega arith; inside = omega arith }
