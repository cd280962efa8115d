-- `modules::put_nth` meets its contract.
use Rattle.std.proofs.Common.{◌+◌, ◌*◌, ◌-◌, ◌≤◌, arith, length}
use Rattle.format.proofs.ModuleLaws.{sectors_fit}
use Rattle.modules.specs.Meaning.{module_of}
use Rattle.modules.specs.Laws.{body_first, body_later}
use Rattle.modules.proofs.put_nth.Goals as goal
use Rattle.modules.proofs.put_nth.Goals.{Else-j-eq0}

-- the bytes reach to the sector
reach : (c : Else-j-eq0) → 245 + 253 * (c.args.j - 1) ≤ length c.args.bytes.now
reach c = omega (arith, (sectors_fit (length c.args.bytes.now)).no_more (omega arith))

pub overflow_mul-j : goal.overflow_mul-j
overflow_mul-j c = omega (arith, reach (goal.at.overflow_mul-j c).Else-j-eq0)

pub overflow_add-j : goal.overflow_add-j
overflow_add-j c = omega (arith, reach (goal.at.overflow_add-j c).Else-j-eq0)

pub put_later-requires : goal.put_later-requires
put_later-requires c = (c.requires.0, c.requires.1, c.requires.2, reach (goal.at.put_later-requires c).Else-j-eq0)

pub returns-then-j-eq0 : goal.returns-then-j-eq0
returns-then-j-eq0 c =
    let a = c.args in
    rw (c.if-j-eq0.true, body_first (module_of a.m a.bytes.now)) c.put_first.ensures

pub returns-else-j-eq0 : goal.returns-else-j-eq0
returns-else-j-eq0 c =
    let a = c.args in
    rw (body_later (module_of a.m a.bytes.now) a.j (omega arith) c.requires.4) c.put_later.ensures
