-- `system::system_of` meets its contract.
use Rattle.disc.specs.Laws.{inside}
use Rattle.system.proofs.system_of.Goals as goal

pub returns : goal.returns
returns c =
    record {
      leads = c.pair_of-pointer.ensures;
      inside = inside c.requires.valid c.pair_of-pointer.result _ _ c.pair_of-pointer.ensures;
      free_counted = c.free_count-free.ensures;
      used_counted = c.used_count-used.ensures;
    }
