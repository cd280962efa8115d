-- A list of writes as the code meets it: a record at its front, and the end.
-- Assumes nothing.
use Rattle.std.specs.Prelude.{Bool, ◌&&◌, List, drop, eqb}
use Prim.Native.Nat.{ℕ}
use Rattle.lists.specs.Lists.{byte}
use Rattle.format.specs.Geometry.{Geometry, sector_number, on_disc, Disc, Write}
use Rattle.format.specs.Calls.{replay_on}
use Rattle.answers.specs.Meaning.{written_by}

-- whether a record is of kind 3 and has a sector on the disc
unfoldable pub is_record : Geometry → List ℕ → Bool
is_record G r = eqb (byte r 0) 3 && on_disc G (byte r 1) (byte r 2)

-- what it writes
abbrev pub write_of : Geometry → List ℕ → Write
write_of G r = record { at = sector_number G (byte r 1) (byte r 2); bytes = drop 3 r }

-- the sectors after a replay; as they were if it is refused
abbrev pub replayed : Geometry → List ℕ → Disc → Disc
replayed G list d = written_by (replay_on G d list) d
