-- `replaying::replay_on` meets its contract.
use Rattle.std.proofs.Common.{sym}
use Rattle.answers.specs.Laws.{refuses_leaves}
use Rattle.replaying.specs.Laws.{replay_refused, replay_done}
use Rattle.replaying.proofs.replay_on.Goals as goal

pub returns-then-not-is_list : goal.returns-then-not-is_list
returns-then-not-is_list c = refuses_leaves _ _ _ _ (replay_refused _ _ _ (sym c.if-not-is_list.ensures))

pub returns : goal.returns
returns c = record { answers = replay_done _ _ _ (sym c.if-not-is_list.ensures); sectors_are = c.replay_records.ensures }
