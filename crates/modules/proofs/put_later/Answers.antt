-- `modules::put_later` meets its contract.
use Rattle.std.proofs.Common.{◌+◌, ◌-◌, arith}
use Rattle.modules.specs.Laws.{later_part}
use Rattle.modules.proofs.put_later.Goals as goal

pub returns : goal.returns
returns c =
    let at = c.args.at in
    rw (← later_part c.part_len-size.ensures (at + c.part_len-size.result - at) (omega arith)) c.put_body.ensures
