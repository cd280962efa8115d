-- `slots::same_at` meets its contract: the part of the image that is compared is the part of the sector.
use Rattle.std.proofs.Common.{arith, ℕ, ◌+◌, ap, ◌∙◌, List, length, take, drop}
use Rattle.lists.specs.Lists.{same}
use Rattle.slots.specs.Laws.{part_cut}
use Rattle.slots.proofs.same_at.Goals as goal

pub returns : goal.returns
returns c =
    let a = c.args in
    let L : ℕ = length a.bytes.now in
    let from = c.start_of.ensures.at in
    let whole = ap (λ (j : ℕ). take L (drop (j + a.k) a.image.now)) from ∙ part_cut c.requires.0 a.n.0 a.k L (omega arith) (omega arith) in
    c.same_at.ensures ∙ ap (λ (p : List ℕ). same p a.bytes.now) whole
