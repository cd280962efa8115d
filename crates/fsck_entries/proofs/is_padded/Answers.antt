-- `fsck_entries::is_padded` meets its contract.
use Rattle.std.proofs.Common.{sym, ◌∙◌}
use Rattle.fsck_entries.proofs.is_padded.Goals as goal

pub returns : goal.returns
returns c = c.are_all.ensures ∙ sym c.letters_end.ensures.1
