-- Laws of rename: its refusals one after the other.
-- Assumes nothing.
use Rattle.std.specs.Prelude.{◌≡◌, ℕ, true, false, Err, Some, None, is_some}
use Rattle.std.specs.declared.option.Option as found
use Rattle.std.proofs.Math.Path.{refl}
use Rattle.std.proofs.Common.{sym, ap, ◌∙◌, true≢false}
use Rattle.std.proofs.Math.Option.{Option, none, some}
use mathlib.Core.List.{List, [], ◌∷◌}
use Rattle.format.specs.Refusals.{NAME, TAKEN, PROTECTED, refused, ok, ◌>>=◌, ◌>>◌, refuse◌if◌, ◌or_refuse◌}
use Rattle.format.specs.Geometry.{Geometry, Disc, Write}
use Rattle.format.specs.Names.{stored}
use Rattle.format.specs.Layout.{name_offset, Slot, attribute_of, is_protected, find}
use Rattle.format.specs.Effects.{slot_write}
use Rattle.format.specs.Calls.{rename_on}
use Rattle.geometry.specs.Meaning.{geo, sectors_of}
use Rattle.geometry.specs.declared.Geometry as disc
use Rattle.slots.specs.declared.slot_no.SlotNo.{SlotNo}
use Rattle.directory.specs.Meaning.{Finds}
use Rattle.refusals.specs.declared.Refusal as code
use Rattle.refusals.specs.Meaning.{reason}
use Rattle.names.specs.Answer.{parsed, parsed_err, parsed_name}
use Rattle.answers.specs.Meaning.{Refuses}
use Rattle.answers.specs.Laws.{refuses_then}
use Rattle.lookup.specs.Meaning.{entry_on}
use Rattle.lookup.specs.Laws.{entry_then}
use Rattle.renaming.specs.Meaning.{rename_to}

module _ (G : Geometry) (d : Disc) (nine : List ℕ) (s : Slot) where
  pub to_protected : is_protected (attribute_of s) ≡ true → rename_to G d nine s ≡ refused PROTECTED
  unfolding rename_to ◌>>◌ refuse◌if◌
  to_protected p = rw p

  module _ (p : is_protected (attribute_of s) ≡ false) where
    pub to_taken : (t : Slot) → find G d nine ≡ some t → rename_to G d nine s ≡ refused TAKEN
    unfolding rename_to ◌>>◌ refuse◌if◌
    to_taken t f = rw (p, f)

    pub to_done : find G d nine ≡ none → rename_to G d nine s ≡ ok (slot_write d s name_offset nine ∷ [])
    unfolding rename_to ◌>>◌ refuse◌if◌
    to_done f = rw (p, f)

-- by what a search for the new name found
module _ (g : disc.Geometry) (image nine : List ℕ) (s : Slot) (p : is_protected (attribute_of s) ≡ false) where
  pub search_taken : (r : found.Option SlotNo) → Finds g image r (find (geo g) (sectors_of g image) nine) → is_some r ≡ true
      → rename_to (geo g) (sectors_of g image) nine s ≡ refused TAKEN
  search_taken (Some t) f h = to_taken (geo g) (sectors_of g image) nine s p _ (sym f.slot)
  search_taken None f h = absurd (true≢false (sym h))

  pub search_done : (r : found.Option SlotNo) → Finds g image r (find (geo g) (sectors_of g image) nine) → is_some r ≡ false
      → rename_to (geo g) (sectors_of g image) nine s ≡ ok (slot_write (sectors_of g image) s name_offset nine ∷ [])
  search_done (Some t) f h = absurd (true≢false h)
  search_done None f h = to_done (geo g) (sectors_of g image) nine s p (sym f.slot)

module _ (G : Geometry) (d : Disc) (old new : List ℕ) where
  pub rename_name : stored new ≡ none → rename_on G d old new ≡ refused NAME
  unfolding rename_on ◌>>=◌ ◌or_refuse◌
  rename_name e = rw e (by (stored old))
    where
      by : (o : Option (List ℕ)) → ◌>>=◌ {B = List Write} (o or_refuse NAME) (λ nine. refused NAME) ≡ refused NAME
      by none = refl
      by (some nine) = refl

  pub rename_err : (e : code.Refusal) → Err e ≡ parsed (stored new) → rename_on G d old new ≡ refused (reason e)
  rename_err e is = rename_name (parsed_err _ e is) ∙ ap (λ (e : code.Refusal). refused (reason e)) (sym (parsed_name _ e is))

  pub rename_is : (nine : List ℕ) → stored new ≡ some nine → rename_on G d old new ≡ (entry_on G d old >>= rename_to G d nine)
  unfolding rename_on rename_to ◌>>=◌ ◌or_refuse◌
  rename_is nine e = rw e (entry_then G d old (rename_to G d nine))

  module _ (nine : List ℕ) (e : stored new ≡ some nine) where
    pub rename_refused : (r : code.Refusal) → Refuses (entry_on G d old) r → Refuses (rename_on G d old new) r
    rename_refused r h = rename_is nine e ∙ refuses_then (entry_on G d old) (rename_to G d nine) r h

    pub rename_entry : (s : Slot) → entry_on G d old ≡ ok s → rename_on G d old new ≡ rename_to G d nine s
    unfolding ◌>>=◌
    rename_entry s p = rename_is nine e ∙ rw p
