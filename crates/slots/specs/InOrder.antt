-- The slots of a directory sector in order, and those of them that are in use.
-- Assumes nothing.
use Rattle.std.specs.Prelude.{◌≡◌, Bool, true, false, not}
use Rattle.std.proofs.Math.Path.{refl, ap}
use Rattle.std.proofs.Common.{◌∙◌}
use Prim.Native.Nat.{ℕ, suc, ◌+◌, ◌-◌, ◌≤◌, ◌<◌}
use native.Mathlib.Omega.{arith}
use mathlib.Core.List.{List, [], ◌∷◌, ◌++◌, map}
use Rattle.lists.specs.Lists.{range, cons_if}
use Rattle.format.specs.Geometry.{Disc}
use Rattle.format.specs.Layout.{slots_each, Slot, free_slot, in_use, slot_at, slots_at}
use Rattle.format.proofs.SlotLaws.{in_use_join}

-- ---- slots in use

-- one slot
module _ (s : Slot) where
  pub use_free : free_slot s ≡ true → in_use (s ∷ []) ≡ []
  unfolding in_use
  use_free e = ap (λ (b : Bool). cons_if (not b) s []) e

  pub use_used : free_slot s ≡ false → in_use (s ∷ []) ≡ s ∷ []
  unfolding in_use
  use_used e = ap (λ (b : Bool). cons_if (not b) s []) e

-- the slots of a directory sector from slot i on
unfoldable pub slots_from : Disc → ℕ → ℕ → List Slot
slots_from d n i = map (slot_at d n) (range i (slots_each - i))

module _ (d : Disc) (n : ℕ) where
  pub slots_all : slots_at d n ≡ slots_from d n 0
  unfolding slots_from slots_at
  slots_all = refl

  module _ (i : ℕ) where
    pub slots_next : i < slots_each → slots_from d n i ≡ slot_at d n i ∷ slots_from d n (i + 1)
    unfolding slots_from
    slots_next h =
        let e : slots_each - i ≡ suc (slots_each - (i + 1)) = omega arith in
        let f : suc i ≡ i + 1 = omega arith in
        ap (λ (k : ℕ). map (slot_at d n) (range i k)) e ∙ ap (λ (k : ℕ). slot_at d n i ∷ map (slot_at d n) (range k (slots_each - (i + 1)))) f

    pub slots_end : slots_each ≤ i → slots_from d n i ≡ []
    unfolding slots_from
    slots_end h = let e : slots_each - i ≡ 0 = omega arith in rw e

-- ---- slots in use, from slot i on

module _ (d : Disc) (n i : ℕ) where
  pub use_next : i < slots_each → in_use (slots_from d n i) ≡ in_use (slot_at d n i ∷ []) ++ in_use (slots_from d n (i + 1))
  use_next h = ap in_use (slots_next d n i h) ∙ in_use_join (slot_at d n i ∷ []) (slots_from d n (i + 1))

  pub use_next_free : i < slots_each → free_slot (slot_at d n i) ≡ true → in_use (slots_from d n i) ≡ in_use (slots_from d n (i + 1))
  use_next_free h e = use_next h ∙ ap (λ (ss : List Slot). ss ++ in_use (slots_from d n (i + 1))) (use_free (slot_at d n i) e)

  pub use_next_used : i < slots_each → free_slot (slot_at d n i) ≡ false → in_use (slots_from d n i) ≡ slot_at d n i ∷ in_use (slots_from d n (i + 1))
  use_next_used h e = use_next h ∙ ap (λ (ss : List Slot). ss ++ in_use (slots_from d n (i + 1))) (use_used (slot_at d n i) e)

  pub use_over : slots_each ≤ i → in_use (slots_from d n i) ≡ []
  unfolding in_use slots_from
  use_over h = let e : slots_each - i ≡ 0 = omega arith in rw e
