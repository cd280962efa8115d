-- `reading::zero_from` meets its contract: the part of the image that is looked at is the end of the sector.
use Rattle.std.proofs.Common.{arith, ℕ, ◌+◌, sym, ap, ◌∙◌, eqb}
use lib.Seq.{slice}
use Rattle.lists.specs.Lists.{all}
use Rattle.reading.specs.SectorLaws.{sector_from}
use Rattle.reading.proofs.zero_from.Goals as goal

pub returns : goal.returns
returns c =
    let a = c.args in
    c.are_all.ensures
    ∙ ap (λ (j : ℕ). all (eqb 0) (slice (j + a.k) (j + 256) a.image.now)) c.requires.1.at
    ∙ ap (all (eqb 0)) (sym (sector_from c.requires.0 a.s.number.0 a.k (omega arith)))
