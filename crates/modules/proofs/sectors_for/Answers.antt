-- `modules::sectors_for` meets its contract.
use Rattle.std.proofs.Common.{sym}
use Rattle.format.proofs.ModuleLaws.{sectors_one, sectors_more}
use Rattle.modules.proofs.sectors_for.Goals as goal

pub returns-then-size-le-FIRST_ROOM : goal.returns-then-size-le-FIRST_ROOM
returns-then-size-le-FIRST_ROOM c = sym (sectors_one _ c.if-size-le-FIRST_ROOM.true)

pub returns : goal.returns
returns c = sym (sectors_more _ c.if-size-le-FIRST_ROOM.false)
