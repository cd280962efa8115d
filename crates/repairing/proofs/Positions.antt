-- Laws of the loop over a track at its ends, and of the same position, said otherwise. The loop counts by a range now; the laws stand, though no proof
-- cites them.
-- Assumes nothing.
use Rattle.std.specs.Prelude.{◌≡◌}
use Rattle.std.proofs.Common.{subst, arith}
use Prim.Native.Nat.{ℕ, ◌+◌, ◌≤◌}
use mathlib.Core.List.{List}
use Rattle.geometry.specs.declared.Geometry.{Geometry}
use Rattle.disc.specs.declared.Address.{Address}
use Rattle.repairing.specs.Meaning.{Threaded, Extends}

-- the same position, said otherwise
pub thread_as : {g : Geometry} {m before after : List ℕ} {first : Address} {count : ℕ} {j k : ℕ} → j ≡ k → Threaded g m before j first count after
    → Threaded g m before k first count after
thread_as {g} {m} {before} {after} {first} {count} e t = subst (λ (n : ℕ). Threaded g m before n first count after) e t

-- ---- the ends of the loop over a track

pub extend_none : {g : Geometry} {m x : List ℕ} {first : Address} {count : ℕ} (j k : ℕ) → j ≡ k → count + j ≤ g.sectors
    → Extends g m j first count x k first count x
extend_none j k e few = record { few = omega arith; threads = λ before t. thread_as e t }

pub extend_end : {g : Geometry} {m x y : List ℕ} {from j : ℕ} {first₀ first : Address} {count₀ count : ℕ} (k : ℕ) → j ≡ k
    → Extends g m from first₀ count₀ x j first count y → Extends g m from first₀ count₀ x k first count y
extend_end k e t = record { few = omega (arith, t.few); threads = λ before b. thread_as e (t.threads before b) }
