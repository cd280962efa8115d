-- What the code that writes a delete leaves and gives.
-- Assumes nothing.
use Rattle.std.specs.Prelude.{◌≡◌, ℕ, List}
use Rattle.lists.specs.Lists.{last_or}
use Rattle.format.specs.Geometry.{written}
use Rattle.format.specs.Layout.{Slot, file_chain}
use Rattle.format.specs.Effects.{delete_writes}
use Rattle.geometry.specs.Meaning.{geo, sectors_of}
use Rattle.geometry.specs.declared.Geometry.{Geometry}

-- the sectors after a delete of the entry s, and the last sector of its file
pub record Removes (g : Geometry) (before after : List ℕ) (s : Slot) (last : ℕ) : Type 0 where
  pub sectors_are : sectors_of g after ≡ written (delete_writes (geo g) (sectors_of g before) s) (sectors_of g before)
  pub last_is : last ≡ last_or 0 (file_chain (geo g) (sectors_of g before) s)
