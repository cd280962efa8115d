-- What the code's types mean in the definitions of load modules, and what the length of a part says.
-- Assumes nothing.
use Rattle.std.specs.Prelude.{◌≡◌, ℕ, ◌+◌, ◌≤◌, List, length, take, drop}
use Rattle.format.specs.Modules.{Module}
use Rattle.modules.specs.declared.Numbers.{Numbers}

-- the module with these numbers and bytes
abbrev pub module_of : Numbers → List ℕ → Module
module_of m xs = record { page = m.page; start = m.start; transfer = m.transfer; bytes = xs }

-- r is how many bytes there are from offset `at` on, at most `most`
pub record PartLength (xs : List ℕ) (at most r : ℕ) : Type 0 where
  pub long : r ≡ length (take most (drop at xs))
  pub few : r ≤ most
  pub inside : at + r ≤ length xs
