-- The law of a name's bucket where the name stands in an image. The code reads the name's bytes from a slice now; the law stands, though no proof cites it.
-- Assumes nothing.
use Rattle.std.specs.Prelude.{◌≡◌, ℕ, ◌+◌, ◌%◌, ◌≤◌, ◌<◌, List, length, take, drop}
use Rattle.std.proofs.Common.{ap, ◌∙◌, arith}
use Rattle.lists.specs.Lists.{byte}
use Rattle.byte_loops.specs.Laws.{part_byte}
use Rattle.fsck_names.specs.Tally.{spread, bucket_of, bucket_many}

-- in the table of many buckets, of the nine bytes from byte a of an image on
pub bucket_many_at : (image : List ℕ) (a size : ℕ) → a + 9 ≤ length image → size ≡ 16384
    → spread (byte image a) (byte image (a + 1)) (byte image (a + 2)) (byte image (a + 3)) (byte image (a + 4)) (byte image (a + 5)) (byte image (a + 6))
    (byte image (a + 7)) (byte image (a + 8)) % 16384
    ≡ bucket_of size (take 9 (drop a image))
bucket_many_at image a size fits e =
    let at : (j : ℕ) → j < 9 → byte (take 9 (drop a image)) j ≡ byte image (a + j) = part_byte image a 9 fits in
    let first : byte (take 9 (drop a image)) 0 ≡ byte image a = at 0 (omega arith) ∙ ap (byte image) (omega arith) in
    rw (
      first,
      at 1 (omega arith),
      at 2 (omega arith),
      at 3 (omega arith),
      at 4 (omega arith),
      at 5 (omega arith),
      at 6 (omega arith),
      at 7 (omega arith),
      at 8 (omega arith),
    ) at (bucket_many size (take 9 (drop a image)) e)
