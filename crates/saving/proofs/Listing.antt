-- Laws of a save that has no room for its list, one for a free slot and one for a directory that grows. The code asks one question for both now
-- (`save_short`); the laws stand, though no proof cites them.
-- Assumes nothing.
use Rattle.std.specs.Prelude.{◌≡◌, Err}
use Rattle.std.proofs.Common.{arith}
use Prim.Native.Nat.{ℕ, ◌+◌, ◌<◌}
use Rattle.std.proofs.Math.Option.{none, some}
use mathlib.Core.List.{List}
use Rattle.std.proofs.Math.ListN.{length}
use Rattle.lists.specs.ListLaws.{All}
use Rattle.format.specs.Refusals.{ok}
use Rattle.format.specs.Layout.{Slot, open_slot}
use Rattle.format.specs.Modules.{Module, sectors_for}
use Rattle.format.specs.Effects.{needed, save_writes}
use Rattle.format.specs.Writes.{list_size}
use Rattle.format.specs.WriteLaws.{WholeOn}
use Rattle.geometry.specs.Meaning.{geo, sectors_of}
use Rattle.geometry.specs.Laws.{image_full}
use Rattle.geometry.specs.declared.Geometry.{Geometry}
use Rattle.soundness.specs.ListedWrites.{save_on_disc}
use Rattle.soundness.specs.SavedList.{saved_many}
use Rattle.refusals.specs.declared.Refusal.TheVariants.{Short}
use Rattle.answers.specs.Meaning.{Lists}
use Rattle.writes.specs.Laws.{listed_short}
use Rattle.saving_sectors.specs.Meaning.{Ready}
use Rattle.saving_sectors.specs.Writes.{growth_some, growth_none}

module _ {g : Geometry} {image : List ℕ} (nine : List ℕ) (m : Module) (y : Ready g image m) (lent : List ℕ) where
  whole : All (WholeOn (geo g)) (save_writes (geo g) (sectors_of g image) nine m)
  whole = save_on_disc (geo g) (sectors_of g image) (image_full y.image_of) y.savable nine m y.enough

  pub open_short : (s : Slot) → open_slot (geo g) (sectors_of g image) ≡ some s → length lent < list_size (sectors_for (length m.bytes) + 2)
      → Lists g image image lent lent (Err Short) (ok (save_writes (geo g) (sectors_of g image) nine m))
  unfolding needed
  open_short s o h =
      let many = saved_many (geo g) (sectors_of g image) nine m y.enough in
      listed_short lent y.image_of _ whole (omega (arith, many, growth_some (geo g) (sectors_of g image) s o))

  pub grown_short : open_slot (geo g) (sectors_of g image) ≡ none → length lent < list_size (sectors_for (length m.bytes) + 3)
      → Lists g image image lent lent (Err Short) (ok (save_writes (geo g) (sectors_of g image) nine m))
  unfolding needed
  grown_short o h =
      let many = saved_many (geo g) (sectors_of g image) nine m y.enough in
      listed_short lent y.image_of _ whole (omega (arith, many, growth_none (geo g) (sectors_of g image) o))
