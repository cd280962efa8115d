-- `fsck_entries::entry_good` meets its contract.
use Rattle.std.proofs.Common.{ℕ, ◌+◌, ◌≡◌, sym, ap, ap₂, ◌∙◌, take, drop, inl, inr, eq-eqb, ne_eqb}
use Rattle.format.specs.Names.{legal_stored}
use Rattle.format.specs.Layout.{name_of}
use Rattle.geometry.specs.Meaning.{sectors_of}
use Rattle.slots.specs.Meaning.{slot_of}
use Rattle.slots.specs.Laws.{name_at}
use Rattle.fsck_entries.specs.Good.{entry_is}
use Rattle.fsck_entries.proofs.entry_good.Goals as goal
use Rattle.fsck_entries.proofs.entry_good.Goals.{After-is_legal}

-- the name that was judged is the entry's
named : (c : After-is_legal) → let a = c.args in
    c.is_legal.result ≡ legal_stored (name_of (slot_of (sectors_of a.g a.image.now) a.slot))
named c =
    let a = c.args in
    c.is_legal.ensures
    ∙ ap₂ (λ (s k : ℕ). legal_stored (take 9 (drop (s + k) a.image.now))) c.start_of.ensures.at c.slot_start.ensures
    ∙ ap legal_stored (sym (name_at c.requires.0 a.slot.sector.0 a.slot.index c.requires.1 a.slot.in_sector))

pub returns-then-not-is_empty : goal.returns-then-not-is_empty
returns-then-not-is_empty c =
    let a = c.args in
    let is = entry_is (slot_of (sectors_of a.g a.image.now) a.slot) (named (goal.at.returns-then-not-is_empty c).After-is_legal) in
    let some = c.if-not-is_empty.true in
    rw is (simp (some.0, ← c.length_of-is_empty.ensures, ne_eqb _ _ some.1, ← c.attribute_of.ensures, c.is_attribute.ensures))

pub returns-else-not-is_empty : goal.returns-else-not-is_empty
returns-else-not-is_empty c =
    let a = c.args in
    let is = entry_is (slot_of (sectors_of a.g a.image.now) a.slot) (named (goal.at.returns-else-not-is_empty c).After-is_legal) in
    rw is (elim c.if-not-is_empty.either [
      | inl h ↦ simp (h.0, ← c.length_of-is_empty.ensures, eq-eqb _ _ h.1) cc
      | inr h ↦ simp h cc
    ])
