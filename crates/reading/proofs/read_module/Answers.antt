-- `reading::read_module` meets its contract: one law for each answer.
use Rattle.std.proofs.Common.{arith, ◌≡◌, ap, ◌∙◌, Some, Ok, length}
use Rattle.format.specs.Modules.{plain}
use Rattle.refusals.specs.declared.Refusal.TheVariants.{NotPlain, Short}
use Rattle.reading.specs.Meaning.{header_of, file_bodies}
use Rattle.reading.specs.Answer.{reading_of, read_answer}
use Rattle.reading.specs.AnswerLaws.{refuses_answer, file_not_plain, file_short, file_read}
use Rattle.reading.proofs.read_module.Goals as goal
use Rattle.reading.proofs.read_module.Goals.{In-Some}

-- what the file holds
held : (c : In-Some) → let a = c.args in Some c.in-Some.header ≡ header_of (plain (file_bodies a.g a.image.now a.first.0 a.count))
held c = rw c.sector_of-at.ensures.0 at c.in-Some.ensures

pub returns-in_default : goal.returns-in_default
returns-in_default c =
    refuses_answer c.args.buffer.now _ NotPlain (file_not_plain _ (rw c.sector_of-at.ensures.0 at c.in_default.ensures) (length c.args.buffer.now))

pub returns-then-buffer-size : goal.returns-then-buffer-size
returns-then-buffer-size c =
    refuses_answer c.args.buffer.now _ Short (file_short _ _ (held (goal.at.returns-then-buffer-size c).In-Some) _ c.if-buffer-size.true)

pub returns : goal.returns
returns c =
    let front = rw c.sector_of-at.ensures.0 at c.copy_module.ensures in
    ap (read_answer (reading_of (Ok c.in-Some.header))) front
    ∙ file_read _ _ (held (goal.at.returns c).In-Some) c.args.buffer.now (omega arith)
