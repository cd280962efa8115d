-- Whether a file's sectors are those of a load module, sector by sector: what its first sector says, and how each sector is filled.
-- (the law `plain_is`: this is what `plain` says)
-- Assumes nothing.
use Rattle.std.specs.Prelude.{ℕ, ◌+◌, ◌-◌, Bool, true, false, ◌&&◌, List, [], ◌∷◌, map, length, take, drop, eqb, leb}
use Rattle.lists.specs.Lists.{all, byte, word_at, joined}
use Rattle.format.specs.Modules.{sectors_for}

-- how many bytes the module has, by the start and end address in its first sector
abbrev pub size_of : List ℕ → ℕ
size_of b = word_at b 4 + 1 - word_at b 2

-- A length byte and what follows it in a sector, where so many bytes are left: as many as there is room for, then zeros.
unfoldable pub filled : ℕ → List ℕ → Bool
filled left [] = false
filled left (x ∷ xs) = eqb x (length (take left xs)) && all (eqb 0) (drop left xs)

-- $FF, a page, and a start address that is not after the end address
unfoldable pub numbered : List ℕ → Bool
numbered b = eqb (byte b 0) 0xFF && leb (byte b 1) 7 && leb (word_at b 2) (word_at b 4)

-- the body of the first sector of a module that takes so many sectors
unfoldable pub headed : List ℕ → ℕ → Bool
headed b count = numbered b && eqb (sectors_for (size_of b)) count && filled (size_of b) (drop 8 b)

-- the bodies of later sectors, where so many bytes are left
unfoldable pub later_filled : ℕ → List (List ℕ) → Bool
later_filled left [] = true
later_filled left (b ∷ bs) = filled left b && later_filled (left - 253) bs

-- what follows the length bytes of later sectors
abbrev pub later_bytes : List (List ℕ) → List ℕ
later_bytes bs = joined (map (drop 1) bs)
