-- `directory::sectors` meets its contract.
use Rattle.std.proofs.Common.{refl}
use Rattle.directory.specs.Walk.{rest_of}
use Rattle.directory.specs.Laws.{started}
use Rattle.directory.proofs.sectors.Goals as goal

pub returns : goal.returns
unfolding rest_of
returns c =
    let start = started c.requires _ c.directory_pointer.ensures.0 in
    record { all = start.0; on = refl; lent = refl; inside = start.1 }
