-- `fsck_files::file_of` meets its contract.
use Rattle.std.proofs.Common.{arith}
use Rattle.fsck_files.specs.Files.{file_broken, file_length, file_last, file_good}
use Rattle.fsck_files.proofs.file_of.Goals as goal

pub returns-in_err-chain : goal.returns-in_err-chain
returns-in_err-chain c = rw c.from_residual.ensures (file_broken _ _ _ _ c.first_step-first.ensures.0 c.in_err-chain.ensures)

pub returns-then-count-length_of : goal.returns-then-count-length_of
returns-then-count-length_of c =
    file_length _ _ _ _ c.first_step-first.ensures.0 c.in_ok-chain.ensures c.length_of.ensures c.if-count-length_of.true

pub returns-then-not-leads_to : goal.returns-then-not-leads_to
returns-then-not-leads_to c =
    file_last _ _ _ _ c.first_step-first.ensures.0 c.in_ok-chain.ensures c.length_of.ensures c.last_of.ensures.0 c.leads_to.ensures c.if-not-leads_to.true

pub returns : goal.returns
returns c =
    file_good _ _ _ _ c.first_step-first.ensures.0 c.in_ok-chain.ensures c.length_of.ensures c.last_of.ensures.0 c.leads_to.ensures
    (omega (arith, c.requires.0.valid)) c.if-count-length_of.false c.if-not-leads_to.false
