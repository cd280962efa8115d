-- What the code's struct says of the system sector.
-- Assumes nothing.
use Rattle.std.specs.Prelude.{◌≡◌, ℕ, List}
use Rattle.format.specs.Layout.{free_pointer, free_count, used_count}
use Rattle.geometry.specs.Meaning.{geo, sectors_of}
use Rattle.disc.specs.Meaning.{meaning, Inside}
use Rattle.geometry.specs.declared.Geometry.{Geometry}
use Rattle.system.specs.declared.System.{System}

pub record SystemOf (g : Geometry) (image : List ℕ) (s : System) : Type 0 where
  pub leads : meaning s.pointer ≡ free_pointer (geo g) (sectors_of g image)
  pub inside : Inside g s.pointer
  pub free_counted : s.free ≡ free_count (sectors_of g image)
  pub used_counted : s.used ≡ used_count (sectors_of g image)
