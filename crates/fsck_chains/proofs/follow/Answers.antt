-- `fsck_chains::follow` meets its contract.
use Rattle.std.proofs.Common.{refl, ap}
use Rattle.disc.specs.Meaning.{led}
use Rattle.fsck_chains.specs.Walks.{walking_start, walking_stop, walking_off}
use Rattle.fsck_chains.proofs.follow.Goals as goal

pub returns-in-End : goal.returns-in-End
returns-in-End c = walking_stop (walking_start _ _ _ refl) (ap led c.in-End.is) _ refl refl

pub returns-in-Off : goal.returns-in-Off
returns-in-Off c = walking_off (walking_start _ _ _ refl) (ap led c.in-Off.is)
