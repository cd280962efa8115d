-- `disc::word_of` meets its contract.
use Rattle.std.proofs.Common.{ap₂, ◌∙◌, ℕ, ◌+◌, ◌*◌}
use Rattle.geometry.specs.Laws.{bytes_at}
use Rattle.disc.proofs.word_of.Goals as goal

pub returns : goal.returns
returns c =
    let bytes = bytes_at c.requires.0 c.start_of.ensures c.requires.1 c.args.k c.requires.2 in
    c.word.ensures ∙ ap₂ (λ (a b : ℕ). a + 256 * b) bytes.0 bytes.1
