-- Laws of the system sector's writes.
-- Assumes nothing.
use Rattle.std.specs.Prelude.{◌≡◌, ℕ, List, [], ◌∷◌, ◌++◌, set}
use Rattle.std.proofs.Common.{ap}
use Rattle.std.proofs.lemmas.List.Edits.{sets}
use Rattle.lists.specs.Lists.{word}
use Rattle.format.specs.Geometry.{Geometry, Next, Disc, written}
use Rattle.format.specs.Layout.{free_offset, free_count_offset, system, pair_bytes}
use Rattle.format.specs.Effects.{system_write}

-- the system sector as it is written from the bytes that stand in it
pub system_from : (G : Geometry) (d e : Disc) (p : Next) (f u : ℕ) → system e ≡ system d
    → written (system_write G e p f u ∷ []) e ≡ written (system_write G d p f u ∷ []) e
unfolding system_write
system_from G d e p f u h = ap (λ (s : List ℕ). set e 0 (sets (sets s free_offset (pair_bytes G p)) free_count_offset (word f ++ word u))) h
