-- `modules::put_first` meets its contract.
use Rattle.std.proofs.Common.{◌-◌, arith, length-take}
use Rattle.modules.specs.Meaning.{module_of}
use Rattle.modules.specs.Laws.{first_part}
use Rattle.modules.proofs.put_first.Goals as goal

pub put_body-requires : goal.put_body-requires
put_body-requires c =
    (c.requires.0, c.requires.1, c.requires.2, omega (arith, length-take (c.part_len-size.result - 0) c.args.bytes.now, c.part_len-size.ensures.few))

pub returns : goal.returns
returns c =
    let a = c.args in
    rw (← first_part (module_of a.m a.bytes.now) c.part_len-size.ensures (c.part_len-size.result - 0) (omega arith))
    (rw (c.word_bytes-starts.ensures, c.word_bytes-ends.ensures, c.word_bytes-transfers.ensures) at c.put_body.ensures)
