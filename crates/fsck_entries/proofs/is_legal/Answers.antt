-- `fsck_entries::is_legal` meets its contract.
use Rattle.fsck_entries.specs.Good.{legal_is}
use Rattle.fsck_entries.proofs.is_legal.Goals as goal
use Rattle.fsck_entries.proofs.is_legal.Goals.{then-is_letter, else-is_letter}

pub returns-then-is_padded : goal.returns-then-is_padded
returns-then-is_padded c =
    rw legal_is (elim c.if-is_letter.branch [
      | then-is_letter w ↦
          simp (← c.is_letter.ensures, w.if-is_letter.true, ← w.is_padded.ensures, ← w.value-is, c.if-is_padded.true, ← c.is_padded-then-is_padded.ensures)
      | else-is_letter w ↦ absurd cc
    ])

pub returns-else-is_padded : goal.returns-else-is_padded
returns-else-is_padded c =
    rw legal_is (elim c.if-is_letter.branch [
      | then-is_letter w ↦ simp (← c.is_letter.ensures, w.if-is_letter.true, ← w.is_padded.ensures, ← w.value-is, c.if-is_padded.false)
      | else-is_letter w ↦ simp (← c.is_letter.ensures, w.if-is_letter.false, c.if-is_padded.false)
    ])
