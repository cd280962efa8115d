-- `view::view_number` meets its contract.
use Rattle.std.proofs.Common.{refl}
use Rattle.format.specs.Refusals.{number}
use Rattle.format.specs.Calls.{view_number}
use Rattle.view.proofs.view_number.Goals as goal

pub returns-in-Ok : goal.returns-in-Ok
unfolding view_number number
returns-in-Ok c = rw (← c.in-Ok.ensures) refl

pub returns-in-Err : goal.returns-in-Err
unfolding view_number number
returns-in-Err c = rw (← c.in-Err.ensures) c.from.ensures
