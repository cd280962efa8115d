-- What the laws of proofs/NameLaws.antt speak of.
-- Assumes nothing.
use Rattle.std.specs.Prelude.{◌≡◌, true}
use Prim.Native.Nat.{ℕ, ◌≤◌}
use mathlib.Core.List.{List}
use Rattle.std.proofs.Math.ListN.{length}
use Rattle.lists.specs.Lists.{all}
use Rattle.format.specs.Names.{letter, nine_bytes}

pub record Letters (lo hi : ℕ) (xs : List ℕ) : Type 0 where
  pub low : lo ≤ length xs
  pub high : length xs ≤ hi
  pub each : all letter xs ≡ true

-- nine bytes made of a name and an extension
pub record Made (nine : List ℕ) : Type 0 where
  pub name : List ℕ
  pub extension : List ℕ
  pub is : nine ≡ nine_bytes name extension
  pub of_name : Letters 1 6 name
  pub of_extension : Letters 0 3 extension
