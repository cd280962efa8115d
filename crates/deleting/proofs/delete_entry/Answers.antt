-- `deleting::delete_entry` meets its contract.
use Rattle.std.proofs.Common.{arith, ℕ, ap, [], ◌∷◌}
use Rattle.format.specs.Layout.{slot_at}
use Rattle.format.specs.Effects.{system_write, delete_writes}
use Rattle.soundness.specs.ListedWrites.{delete_on_disc, delete_once}
use Rattle.geometry.specs.Laws.{image_full, image_kept}
use Rattle.writes.specs.Laws.{listed_short, listed_done}
use Rattle.deleting.proofs.delete_entry.Goals as goal

pub returns-then-list-list_size : goal.returns-then-list-list_size
unfolding delete_writes
returns-then-list-list_size c =
    listed_short _ c.requires.0 _ (delete_on_disc _ _ (image_full c.requires.0) _ c.requires.2)
    (omega (arith, c.if-list-list_size.true, c.list_size.ensures))

pub put_deleted-requires : goal.put_deleted-requires
put_deleted-requires c = (
  image_kept c.requires.0 c.remove-last.auto.image,
  c.requires.1,
  omega (arith, c.remove-last.ensures.last_is, c.requires.2.last_high, c.requires.0.valid.total),
  omega (arith, c.if-list-list_size.false, c.list_size.ensures),
)

pub returns : goal.returns
unfolding delete_writes system_write slot_at
returns c =
    listed_done _ c.requires.0 _ (delete_on_disc _ _ (image_full c.requires.0) _ c.requires.2)
    (delete_once _ _ _ c.requires.2) (omega (arith, c.if-list-list_size.false, c.list_size.ensures)) c.remove-last.ensures.sectors_are
    (ap (λ (l : ℕ). c.args.slot.sector.0 ∷ l ∷ 0 ∷ []) c.remove-last.ensures.last_is) c.put_deleted.ensures
