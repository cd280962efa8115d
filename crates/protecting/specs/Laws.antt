-- Laws of protect: its refusals one after the other.
-- Assumes nothing.
use Rattle.std.specs.Prelude.{◌≡◌, ℕ, not, List, [], ◌∷◌, eqb}
use Rattle.std.proofs.Common.{◌∙◌}
use Rattle.format.specs.Refusals.{ok, ◌>>=◌}
use Rattle.format.specs.Geometry.{Geometry, Disc}
use Rattle.format.specs.Layout.{attribute_offset, attribute, Slot, attribute_of, protected_as}
use Rattle.format.specs.Effects.{slot_write}
use Rattle.format.specs.Calls.{protect_on}
use Rattle.refusals.specs.declared.Refusal as code
use Rattle.answers.specs.Meaning.{Refuses}
use Rattle.answers.specs.Laws.{refuses_then}
use Rattle.lookup.specs.Meaning.{entry_on}
use Rattle.lookup.specs.Laws.{entry_then}

module _ (G : Geometry) (d : Disc) (name : List ℕ) (on : ℕ) where
  pub protect_is : protect_on G d name on
      ≡ (entry_on G d name >>= λ s. ok (slot_write d s attribute_offset (protected_as (not (eqb on 0)) (attribute_of s) ∷ []) ∷ []))
  unfolding protect_on
  protect_is = entry_then G d name (λ s. ok (slot_write d s attribute_offset (protected_as (not (eqb on 0)) (attribute_of s) ∷ []) ∷ []))

  pub protect_refused : (e : code.Refusal) → Refuses (entry_on G d name) e → Refuses (protect_on G d name on) e
  protect_refused e h = protect_is ∙ refuses_then (entry_on G d name) _ e h

  pub protect_done : (s : Slot) (x : ℕ) → entry_on G d name ≡ ok s → x ≡ attribute (not (eqb on 0))
      → protect_on G d name on ≡ ok (slot_write d s attribute_offset (x ∷ []) ∷ [])
  unfolding ◌>>=◌
  protect_done s x e h = protect_is ∙ rw (e, h)
