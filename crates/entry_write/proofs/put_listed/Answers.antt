-- `entry_write::put_listed` meets its contract.
use Rattle.std.proofs.Common.{arith, refl, [], ◌∷◌}
use Rattle.lists.specs.ListLaws.{All, done, ◌also◌}
use Rattle.format.specs.Layout.{slot_at}
use Rattle.slots.specs.Meaning.{slot_of}
use Rattle.format.specs.Effects.{slot_write}
use Rattle.format.specs.WriteLaws.{WholeOn}
use Rattle.lists.specs.Counts.{one_at_most}
use Rattle.soundness.specs.ListedWrites.{slot_on_disc}
use Rattle.geometry.specs.Meaning.{geo, sectors_of}
use Rattle.geometry.specs.Laws.{image_full, image_kept}
use Rattle.writes.specs.Laws.{listed_short, listed_done}
use Rattle.entry_write.proofs.put_listed.Goals as goal
use Rattle.entry_write.proofs.put_listed.Goals.{Start}

-- the one write is a whole sector of the disc
whole : (c : Start) → let a = c.args in let d = sectors_of a.g a.image.now in
    All (WholeOn (geo a.g)) (slot_write d (slot_of d a.slot) a.k a.bytes.now ∷ [])
unfolding slot_at
whole c =
    let a = c.args in
    let i = c.requires.0 in
    let s = slot_of (sectors_of a.g a.image.now) a.slot in
    slot_on_disc _ _ (image_full i) s (omega (arith, c.requires.1, i.valid.total)) a.k a.bytes.now also done

pub returns-then-list-list_size : goal.returns-then-list-list_size
returns-then-list-list_size c =
    listed_short _ c.requires.0 _ (whole (goal.at.returns-then-list-list_size c).Start) (omega (arith, c.if-list-list_size.true, c.list_size.ensures))

pub put_one-requires : goal.put_one-requires
put_one-requires c = (image_kept c.requires.0 c.put_in_slot.auto.image, c.requires.1, omega (arith, c.if-list-list_size.false, c.list_size.ensures))

pub returns : goal.returns
unfolding slot_at
returns c =
    listed_done _ c.requires.0 _ (whole (goal.at.returns c).Start) (λ n. one_at_most n _) (omega (arith, c.if-list-list_size.false, c.list_size.ensures))
    c.put_in_slot.ensures refl c.put_one.ensures
