-- `fsck_names::slot_repeats` meets its contract.
use Rattle.std.proofs.Common.{◌∙◌}
use Rattle.fsck_names.specs.Differ.{other_name, same_name}
use Rattle.fsck_names.proofs.slot_repeats.Goals as goal

pub returns-then-same_names : goal.returns-then-same_names
returns-then-same_names c = same_name _ _ c.same_names.ensures _ c.if-same_names.true c.slot_free.ensures

pub returns-else-same_names : goal.returns-else-same_names
returns-else-same_names c = c.if-same_names.false ∙ other_name _ _ c.same_names.ensures c.if-same_names.false
