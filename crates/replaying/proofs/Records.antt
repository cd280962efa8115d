-- The law of a record's bytes in a list of writes. The code cuts records off the front of the list now; the law stands, though no proof cites it.
-- Assumes nothing.
use Rattle.std.specs.Prelude.{◌≡◌, ℕ, ◌+◌, ◌-◌, List, take, drop}
use Rattle.std.proofs.Math.Path.{ap}
use native.Mathlib.Omega.{arith}

-- the part of the list that has the bytes of the record at position k
pub bytes_at : (s : List ℕ) (k : ℕ) → take (k + 259 - (k + 3)) (drop (k + 3) s) ≡ take 256 (drop (k + 3) s)
bytes_at s k = let size : k + 259 - (k + 3) ≡ 256 = omega arith in ap (λ (n : ℕ). take n (drop (k + 3) s)) size
