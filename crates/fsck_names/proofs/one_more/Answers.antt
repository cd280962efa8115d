-- `fsck_names::one_more` meets its contract.
use Rattle.std.proofs.Common.{sym}
use Rattle.fsck_names.specs.Tally.{more_low, more_high}
use Rattle.fsck_names.proofs.one_more.Goals as goal

pub returns-then-count-lt2 : goal.returns-then-count-lt2
returns-then-count-lt2 c = sym (more_low _ c.if-count-lt2.true)

pub returns-else-count-lt2 : goal.returns-else-count-lt2
returns-else-count-lt2 c = sym (more_high _ c.if-count-lt2.false)
