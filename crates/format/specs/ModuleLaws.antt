-- What the laws of proofs/ModuleLaws.antt speak of.
-- Assumes nothing.
use Rattle.std.specs.Prelude.{ℕ, ◌+◌, ◌*◌, ◌-◌, ◌≤◌, ◌<◌, length}
use Rattle.format.specs.Modules.{Module}

pub record IsModule (m : Module) : Type 0 where
  pub pages : m.page ≤ 7
  pub some_byte : 1 ≤ length m.bytes
  pub within : m.start + length m.bytes ≤ 65536

-- enough for all the bytes, and not one too many
pub record Fitting (L k : ℕ) : Type 0 where
  pub some_sector : 1 ≤ k
  pub enough : L ≤ 245 + 253 * (k - 1)
  pub no_more : 1 < k → 245 + 253 * (k - 2) < L
