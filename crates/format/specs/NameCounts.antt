-- What the laws of proofs/NameCounts.antt speak of.
-- Assumes nothing.
use Rattle.std.specs.Prelude.{ℕ, List, length}
use Rattle.lists.specs.Lists.{same, filter}
use Rattle.format.specs.Layout.{Slot, name_of}

-- the entries of a name, and how many they are
abbrev pub of_name : List ℕ → List Slot → List Slot
of_name x ss = filter (λ s. same (name_of s) x) ss

unfoldable pub called : List ℕ → List Slot → ℕ
called x ss = length (of_name x ss)
