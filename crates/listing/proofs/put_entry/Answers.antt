-- `listing::put_entry` meets its contract.
use Rattle.std.proofs.Common.{arith, ap, ap₂, sym, ◌∙◌, List, [], ◌∷◌, ◌++◌, append_assoc, ℕ, ◌+◌}
use Rattle.lists.specs.Lists.{word}
use Rattle.format.specs.Layout.{name_of, length_of, attribute_of}
use Rattle.geometry.specs.Meaning.{sectors_of}
use Rattle.slots.specs.Meaning.{slot_of}
use Rattle.slots.specs.Laws.{name_part}
use Rattle.records.specs.Storing.{stored_as}
use Rattle.listing.proofs.put_entry.Goals as goal

pub returns : goal.returns
returns c =
    let a = c.args in
    let s = slot_of (sectors_of a.g a.image.now) a.slot in
    let name = name_part c.requires.0 a.slot.sector.0 a.slot.index (c.start_of.result + c.slot_start.result)
    (omega arith) (omega arith) (omega (arith, c.start_of.ensures.at, c.slot_start.ensures)) in
    let numbers = ap₂ (λ (m x : ℕ). word m ++ x ∷ []) c.entry_of-entry.ensures.length_is c.entry_of-entry.ensures.attribute_is in
    stored_as
    (ap₂ (λ (xs ys : List ℕ). 2 ∷ xs ++ ys) name numbers
    ∙ ap (λ (xs : List ℕ). 2 ∷ xs) (sym (append_assoc (name_of s) (word (length_of s)) (attribute_of s ∷ []))))
    (rw c.to_le_bytes-size.ensures at c.put_record.ensures)
