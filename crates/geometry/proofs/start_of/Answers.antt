-- `geometry::start_of` meets its contract. Nothing wraps: a sector ends within the image.
use Rattle.std.proofs.Common.{sym, subst, ℕ, ◌+◌, ◌*◌, ◌/◌}
use Rattle.geometry.specs.Meaning.{Starts}
use Rattle.geometry.specs.Laws.{starts}
use Rattle.geometry.proofs.start_of.Goals as goal

pub returns : goal.returns
returns c =
    let n : ℕ = c.args.n.0 in
    subst (λ (p : ℕ). Starts c.args.g n (2560 * (n / 10) + p)) (sym c.offset_of.ensures.0) (starts c.requires.0 n c.requires.1)
