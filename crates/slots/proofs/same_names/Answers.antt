-- `slots::same_names` meets its contract.
use Rattle.std.proofs.Common.{arith, ◌≡◌, ap, ap₂, sym, ◌∙◌, ℕ, ◌+◌, List, length, take, drop}
use Rattle.lists.specs.Lists.{same}
use Rattle.format.specs.Geometry.{Disc, sector}
use Rattle.format.specs.Layout.{slot_at, name_of}
use Rattle.geometry.specs.Meaning.{sectors_of}
use Rattle.slots.specs.Laws.{name_front, name_nine, name_part}
use Rattle.slots.proofs.same_names.Goals as goal

pub returns : goal.returns
returns c =
    let a = c.args in
    let d : Disc = sectors_of a.g a.image.now in
    let name : List ℕ = name_of (slot_at d a.other.sector.0 a.other.index) in
    let bytes : List ℕ = sector d a.slot.sector.0 in
    let from : ℕ = c.start_of.result + c.slot_start.result in
    let other = name_part c.requires.0 a.other.sector.0 a.other.index from (omega arith) (omega arith) (omega (arith, c.start_of.ensures.at)) in
    let long : length name ≡ 9 = name_nine c.requires.0 a.other.sector.0 a.other.index (omega arith) (omega arith) in
    c.same_at.ensures
    ∙ ap (λ (xs : List ℕ). same (take (length xs) (drop c.slot_start-2.result bytes)) xs) other
    ∙ ap₂ (λ (L k : ℕ). same (take L (drop k bytes)) name) long c.slot_start-2.ensures
    ∙ ap (λ (xs : List ℕ). same xs name) (sym (name_front d a.slot.sector.0 a.slot.index))
