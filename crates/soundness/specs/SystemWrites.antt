-- The system sector with another free pointer and other counts: what is read from it.
-- Assumes nothing.
use Rattle.std.specs.Prelude.{◌≡◌, List, ◌++◌}
use Rattle.std.proofs.Math.Path.{refl, ap, ap₂}
use Rattle.std.proofs.Common.{◌∙◌}
use Prim.Native.Nat.{ℕ, zero, suc, ◌+◌, ◌*◌, ◌≤◌, ◌<◌}
use native.Mathlib.Omega.{arith}
use Rattle.std.proofs.Math.ListN.{length}
use Rattle.std.proofs.lemmas.List.Edits.{sets}
use Rattle.std.proofs.Math.Seq.{length-sets}
use Rattle.lists.specs.Lists.{byte, word, word_at}
use Rattle.lists.specs.Stores.{get_d_sets_off, get_d_sets_in}
use Rattle.format.specs.Geometry.{Geometry, Next, pointed, Disc}
use Rattle.format.specs.Layout.{free_offset, directory_offset, free_count_offset, used_count_offset, system, pair_at, pair_bytes, directory_pointer}
use Rattle.format.specs.Effects.{system_write}
use Rattle.soundness.specs.Pointers.{Bounded, Pointable, pair_stored}

module _ (G : Geometry) (u : Bounded G) (d : Disc) (full : length (system d) ≡ 256) (p : Next) (l : Pointable G p) (freed used : ℕ) where
  mid : List ℕ
  mid = sets (system d) free_offset (pair_bytes G p)

  mid_length : length mid ≡ 256
  unfolding mid
  mid_length = length-sets (system d) free_offset (pair_bytes G p) ∙ full

  sys' : List ℕ
  sys' = (system_write G d p freed used).bytes

  sys_is : sys' ≡ sets mid free_count_offset (word freed ++ word used)
  unfolding sys' mid system_write
  sys_is = refl

  at_counts : (k : ℕ) → k < 4 → byte sys' (free_count_offset + k) ≡ byte (word freed ++ word used) k
  at_counts k h =
      ap (λ (r : List ℕ). byte r (free_count_offset + k)) sys_is
      ∙ get_d_sets_in (word freed ++ word used) mid free_count_offset k 0 h (omega (arith, mid_length))

  before : (k : ℕ) → k < free_count_offset → byte sys' k ≡ byte mid k
  before k h = ap (λ (r : List ℕ). byte r k) sys_is ∙ get_d_sets_off (word freed ++ word used) mid free_count_offset k 0 (λ a. absurd (omega arith))

  pub system_free : pair_at G (system_write G d p freed used).bytes free_offset ≡ p
  unfolding sys' mid
  system_free =
      ap₂ (λ (a b : ℕ). pointed G a b) (before (free_offset + 1) (omega arith)) (before free_offset (omega arith))
      ∙ pair_stored G u (system d) free_offset l (omega arith)

  -- the two bytes of the free pointer
  pub system_pair : (k : ℕ) → k < 2 → byte (system_write G d p freed used).bytes (free_offset + k) ≡ byte (pair_bytes G p) k
  unfolding sys' mid
  system_pair k h = before (free_offset + k) (omega arith) ∙ get_d_sets_in (pair_bytes G p) (system d) free_offset k 0 h (omega arith)

  pub system_freed : freed < 65536 → word_at (system_write G d p freed used).bytes free_count_offset ≡ freed
  unfolding sys'
  system_freed h = ap₂ (λ (a b : ℕ). a + 256 * b) (at_counts 0 (omega arith)) (at_counts 1 (omega arith)) ∙ omega arith

  pub system_used : used < 65536 → word_at (system_write G d p freed used).bytes used_count_offset ≡ used
  unfolding sys'
  system_used h = ap₂ (λ (a b : ℕ). a + 256 * b) (at_counts 2 (omega arith)) (at_counts 3 (omega arith)) ∙ omega arith

  -- the four bytes of the counts are bytes
  pub system_small : (k : ℕ) → k < 4 → byte (system_write G d p freed used).bytes (free_count_offset + k) < 256
  unfolding sys'
  system_small zero h = omega (arith, at_counts 0 h)
  system_small (suc zero) h = omega (arith, at_counts 1 h)
  system_small (suc (suc zero)) h = omega (arith, at_counts 2 h)
  system_small (suc (suc (suc zero))) h = omega (arith, at_counts 3 h)
  system_small (suc (suc (suc (suc k)))) h = absurd (omega arith)

  pub system_length : length (system_write G d p freed used).bytes ≡ 256
  unfolding sys'
  system_length = ap length sys_is ∙ length-sets mid free_count_offset (word freed ++ word used) ∙ mid_length

-- all but the free pointer and the counts stays
pub system_others : (G : Geometry) (d : Disc) (p : Next) (a b k : ℕ) → (free_offset ≤ k → free_offset + 2 ≤ k) → (free_count_offset ≤ k → free_count_offset + 4 ≤ k)
    → byte (system_write G d p a b).bytes k ≡ byte (system d) k
unfolding system_write
system_others G d p a b k h i =
    get_d_sets_off (word a ++ word b) (sets (system d) free_offset (pair_bytes G p)) free_count_offset k 0 i
    ∙ get_d_sets_off (pair_bytes G p) (system d) free_offset k 0 h

-- so the directory pointer does
pub system_directory : (G : Geometry) (d : Disc) (p : Next) (a b : ℕ) → pair_at G (system_write G d p a b).bytes directory_offset ≡ directory_pointer G d
system_directory G d p a b =
    let stays : (k : ℕ) → directory_offset ≤ k → k < free_count_offset → byte (system_write G d p a b).bytes k ≡ byte (system d) k =
    λ k h i. system_others G d p a b k (λ _. omega arith) (λ j. absurd (omega arith)) in
    ap₂ (λ (a b : ℕ). pointed G a b) (stays (directory_offset + 1) (omega arith) (omega arith)) (stays directory_offset (omega arith) (omega arith))
