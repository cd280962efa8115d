-- Document 02, request e, 'A list of what was written': the bytes of a list of writes, and the writes that a list holds.
-- Which sectors a command writes, and in which order, is said in Effects.
-- Assumes nothing.
use Rattle.std.specs.Prelude.{ℕ, zero, suc, ◌+◌, ◌*◌, ◌/◌, ◌&&◌, cond, List, [], ◌∷◌, ◌++◌, take, drop, eqb}
use Rattle.std.proofs.Math.Option.{Option, none, some}
use Rattle.lists.specs.Lists.{byte}
use Rattle.format.specs.Geometry.{Geometry, sector_number, on_disc, track_of, sector_of, Write}

-- ---- the bytes of a list

-- "kind 3, track, sector, 256 bytes"
unfoldable pub record_of : Geometry → Write → List ℕ
record_of G w = 3 ∷ track_of G w.at ∷ sector_of G w.at ∷ w.bytes

-- "the writes in order ..: kind 3, ..; then kind 0"
unfoldable pub write_list : Geometry → List Write → List ℕ
write_list G [] = 0 ∷ []
write_list G (w ∷ ws) = record_of G w ++ write_list G ws

-- the length of a list of n writes of whole sectors (the law `list_long`): 259 bytes a record, and one for kind 0
abbrev pub list_size : ℕ → ℕ
list_size n = 259 * n + 1

-- and back: how many writes a list of so many bytes has
abbrev pub writes_in : ℕ → ℕ
writes_in size = size / 259

-- ---- the writes that a list holds

-- w in front, where there are writes
abbrev pub and_then : Write → Option (List Write) → Option (List Write)
and_then w none = none
and_then w (some ws) = some (w ∷ ws)

-- a list ends with kind 0: none if there are "bytes after its first kind 0"
abbrev pub ended : (after : List ℕ) → Option (List Write)
ended [] = some []
ended (x ∷ xs) = none

module _ (G : Geometry) where
  -- the sector and the bytes of a record, from the byte after its kind on: "track, sector, 256 bytes"
  abbrev pub write_of : List ℕ → Write
  write_of xs = record { at = sector_number G (byte xs 0) (byte xs 1); bytes = take 256 (drop 2 xs) }

  -- What a kind means in front of the bytes `xs`, where the writes of what follows its record are `rest`. None: "another kind", "a sector
  -- not on the disc", or there is no list from there on.
  abbrev pub by_kind : (kind : ℕ) (xs : List ℕ) (rest : Option (List Write)) → Option (List Write)
  by_kind kind xs rest =
      cond (eqb kind 0) (ended xs)
      (cond (eqb kind 3 && on_disc G (byte xs 0) (byte xs 1)) (and_then (write_of xs) rest)
      none)

  -- the writes of a list, after so many bytes that belong to the record before; none if it is no list
  unfoldable pub held_after : ℕ → List ℕ → Option (List Write)
  -- "a cut record"
  held_after (suc k) [] = none
  held_after (suc k) (x ∷ xs) = held_after k xs
  -- "no kind 0 at the end"
  held_after zero [] = none
  -- a record has 258 bytes after its kind
  held_after zero (kind ∷ xs) = by_kind kind xs (held_after 258 xs)

  -- the writes that a list holds
  abbrev pub held : List ℕ → Option (List Write)
  held list = held_after 0 list
