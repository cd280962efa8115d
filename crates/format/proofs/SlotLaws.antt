-- Laws of slots: those in use.
-- Assumes nothing.
use Rattle.std.specs.Prelude.{◌≡◌, not, List, ◌++◌}
use Rattle.lists.specs.ListLaws.{filter_join}
use Rattle.format.specs.Layout.{Slot, free_slot, in_use}

pub in_use_join : (ss ts : List Slot) → in_use (ss ++ ts) ≡ in_use ss ++ in_use ts
unfolding in_use
in_use_join ss ts = filter_join (λ s. not (free_slot s)) ss ts
