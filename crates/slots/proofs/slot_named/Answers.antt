-- `slots::slot_named` meets its contract.
use Rattle.std.proofs.Common.{rules, arith, ◌≡◌, ap, ap₂, sym, ◌∙◌, ℕ, List, length, take, drop}
use Rattle.lists.specs.Lists.{same}
use Rattle.format.specs.Geometry.{Disc, sector}
use Rattle.geometry.specs.Meaning.{sectors_of}
use Rattle.slots.specs.Laws.{name_front}
use Rattle.slots.proofs.slot_named.Goals as goal
use Rattle.slots.proofs.slot_named.Goals.{Start}

nine : (c : Start) → length c.args.name.bytes ≡ 9
nine c = search rules

pub same_at-requires : goal.same_at-requires
same_at-requires c = (c.requires.0, c.requires.1, omega (arith, nine (goal.at.same_at-requires c).Start, c.slot_start.ensures))

pub returns : goal.returns
returns c =
    let a = c.args in
    let d : Disc = sectors_of a.g a.image.now in
    let part : ℕ → ℕ → List ℕ = λ L k. take L (drop k (sector d a.slot.sector.0)) in
    let own = ap₂ part (nine (goal.at.returns c).Start) c.slot_start.ensures ∙ sym (name_front d a.slot.sector.0 a.slot.index) in
    c.same_at.ensures ∙ ap (λ (s : List ℕ). same s a.name.bytes) own
