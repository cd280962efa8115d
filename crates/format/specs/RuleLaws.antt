-- What the laws of proofs/RuleLaws.antt speak of.
-- Assumes nothing.
use Rattle.std.specs.Prelude.{◌≡◌, ℕ, ◌≤◌, true, List, length}
use Rattle.lists.specs.Lists.{byte, times, last_or}
use Rattle.format.specs.Geometry.{Geometry, go, Disc, sector}
use Rattle.format.specs.Names.{legal_stored}
use Rattle.format.specs.Layout.{in_use_offset, is_attribute, Slot, in_use, name_of, length_of, attribute_of, slots_at, first_of, last_of, file_chain}
use Rattle.format.specs.ChainLaws.{Chain}

-- what `good_entry` tests
pub record GoodEntry (s : Slot) : Type 0 where
  pub legal : legal_stored (name_of s) ≡ true
  pub some_sector : 1 ≤ length_of s
  pub attribute_right : is_attribute (attribute_of s) ≡ true

-- what `good_chain` tests: the file's chain ends, is as long as the entry says, and ends where it says
pub record GoodChain (G : Geometry) (d : Disc) (s : Slot) : Type 0 where
  pub chained : Chain G d (first_of G s) (file_chain G d s)
  pub as_long : length (file_chain G d s) ≡ length_of s
  pub ends_at : last_of G s ≡ go (last_or 0 (file_chain G d s))

-- byte 2 of a directory sector counts its entries
abbrev pub Counted : Disc → ℕ → Type 0
Counted d n = byte (sector d n) in_use_offset ≡ length (in_use (slots_at d n))

-- no number stands in the list twice
abbrev pub Apart : List ℕ → Type 0
Apart xs = (n : ℕ) → times n xs ≤ 1
