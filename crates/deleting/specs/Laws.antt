-- Laws of delete: its refusals one after the other.
-- Assumes nothing.
use Rattle.std.specs.Prelude.{◌≡◌, ℕ, true, false, List}
use Rattle.std.proofs.Common.{◌∙◌}
use Rattle.format.specs.Refusals.{PROTECTED, refused, ok, ◌>>=◌, ◌>>◌, refuse◌if◌}
use Rattle.format.specs.Geometry.{Geometry, Disc}
use Rattle.format.specs.Layout.{Slot, attribute_of, is_protected}
use Rattle.format.specs.Effects.{delete_writes}
use Rattle.format.specs.Calls.{delete_on}
use Rattle.refusals.specs.declared.Refusal as code
use Rattle.answers.specs.Meaning.{Refuses}
use Rattle.answers.specs.Laws.{refuses_then}
use Rattle.lookup.specs.Meaning.{entry_on}
use Rattle.lookup.specs.Laws.{entry_then}

module _ (G : Geometry) (d : Disc) (name : List ℕ) where
  pub delete_is : delete_on G d name ≡ (entry_on G d name >>= λ s. (refuse PROTECTED if is_protected (attribute_of s) >> ok (delete_writes G d s)))
  unfolding delete_on
  delete_is = entry_then G d name (λ s. (refuse PROTECTED if is_protected (attribute_of s) >> ok (delete_writes G d s)))

  pub delete_refused : (e : code.Refusal) → Refuses (entry_on G d name) e → Refuses (delete_on G d name) e
  delete_refused e h = delete_is ∙ refuses_then (entry_on G d name) _ e h

  pub delete_protected : (s : Slot) → entry_on G d name ≡ ok s → is_protected (attribute_of s) ≡ true → delete_on G d name ≡ refused PROTECTED
  unfolding ◌>>=◌ ◌>>◌ refuse◌if◌
  delete_protected s e p = delete_is ∙ rw (e, p)

  pub delete_done : (s : Slot) → entry_on G d name ≡ ok s → is_protected (attribute_of s) ≡ false → delete_on G d name ≡ ok (delete_writes G d s)
  unfolding ◌>>=◌ ◌>>◌ refuse◌if◌
  delete_done s e p = delete_is ∙ rw (e, p)
