-- Laws of the entry that a call names: its refusals one after the other.
-- Assumes nothing.
use Rattle.std.specs.Prelude.{◌≡◌, ℕ, Bool, not, List, Some, None, Err}
use Rattle.std.proofs.Math.Path.{refl, ap}
use Rattle.std.proofs.Common.{sym, ◌∙◌}
use Rattle.std.proofs.Math.Bool.{true, false}
use Rattle.std.proofs.Math.Option.{Option, none, some}
use Rattle.std.specs.declared.option.Option as found
use Rattle.std.specs.Option.{ok_or}
use borrow.Author.Tests.{not-false}
use Rattle.format.specs.Refusals.{Try, Refusal, NAME, UNSOUND, ABSENT, refused, ok, ◌>>=◌, ◌>>◌, refuse◌if◌, ◌or_refuse◌}
use Rattle.format.proofs.RefusalLaws.{refused_ok, ok_is, or_ok, if_ok, then_ok}
use Rattle.format.specs.Geometry.{Geometry, Disc}
use Rattle.format.specs.Names.{stored}
use Rattle.format.specs.Layout.{Slot, find}
use Rattle.format.specs.Check.{sound}
use Rattle.geometry.specs.Meaning.{geo, sectors_of}
use Rattle.geometry.specs.declared.Geometry as code
use Rattle.refusals.specs.declared.Refusal as refusal
use Rattle.refusals.specs.declared.Refusal.TheVariants.{Absent}
use Rattle.refusals.specs.Meaning.{reason}
use Rattle.names.specs.Answer.{parsed, parsed_err, parsed_name}
use Rattle.slots.specs.declared.slot_no.SlotNo.{SlotNo}
use Rattle.directory.specs.Meaning.{Finds}
use Rattle.lookup.specs.Meaning.{named_on, slot_on, entry_on, Judges}

-- ---- the entry of a name

module _ (G : Geometry) (d : Disc) (name : List ℕ) where
  pub named_none : stored name ≡ none → named_on G d name ≡ refused NAME
  unfolding named_on ◌>>=◌ ◌or_refuse◌
  named_none e = rw e

  pub named_err : (e : refusal.Refusal) → Err e ≡ parsed (stored name) → named_on G d name ≡ refused (reason e)
  named_err e is = named_none (parsed_err _ e is) ∙ ap (λ (e : refusal.Refusal). refused (reason e)) (sym (parsed_name _ e is))

  module _ (nine : List ℕ) (e : stored name ≡ some nine) where
    pub named_unsound : sound G d ≡ false → named_on G d name ≡ refused UNSOUND
    unfolding named_on ◌>>=◌ ◌>>◌ refuse◌if◌ ◌or_refuse◌
    named_unsound s = rw (e, s)

    pub named_sound : sound G d ≡ true → named_on G d name ≡ ok nine
    unfolding named_on ◌>>=◌ ◌>>◌ refuse◌if◌ ◌or_refuse◌
    named_sound s = rw (e, s)

  pub entry_slot : (nine : List ℕ) → named_on G d name ≡ ok nine → entry_on G d name ≡ slot_on G d nine
  unfolding entry_on ◌>>=◌
  entry_slot nine e = rw e

  -- what is then done with the entry
  pub entry_then : {A : Type 0} (f : Slot → Try Refusal A)
      → (stored name or_refuse NAME >>= λ nine. (refuse UNSOUND if not (sound G d) >> (find G d nine or_refuse ABSENT >>= f))) ≡ (entry_on G d name >>= f)
  unfolding entry_on named_on slot_on ◌>>=◌ ◌>>◌ refuse◌if◌ ◌or_refuse◌
  entry_then {A} f = by (stored name) (not (sound G d))
    where
      by : (o : Option (List ℕ)) (b : Bool) → (o or_refuse NAME >>= λ nine. (refuse UNSOUND if b >> (find G d nine or_refuse ABSENT >>= f)))
          ≡ ((o or_refuse NAME >>= λ nine. (refuse UNSOUND if b >> ok nine)) >>= (λ nine. find G d nine or_refuse ABSENT) >>= f)
      by none b = refl
      by (some nine) true = refl
      by (some nine) false = refl

  -- a found entry: the disc is sound, and it is the entry of the stored name
  pub record Entry (s : Slot) : Type 0 where
    pub nine : List ℕ
    pub checked : sound G d ≡ true
    pub found : find G d nine ≡ some s

  pub entry_ok : (s : Slot) → entry_on G d name ≡ ok s → Entry s
  unfolding entry_on named_on slot_on ◌or_refuse◌
  entry_ok s p =
      let named = then_ok (named_on G d name) (slot_on G d) p in
      let typed = or_ok _ (stored name) _ named.1 in
      let tested = if_ok _ _ _ typed.2 in
      record { nine = named.0; checked = not-false _ tested.0; found = is (find G d named.0) named.2 }
    where
      is : (o : Option Slot) → (o or_refuse ABSENT) ≡ ok s → o ≡ some s
      is none e = absurd (refused_ok e)
      is (some x) e = ap some (ok_is e)

-- a search that found, and one that did not
module _ (G : Geometry) (d : Disc) (nine : List ℕ) where
  pub slot_found : (s : Slot) → find G d nine ≡ some s → slot_on G d nine ≡ ok s
  unfolding slot_on ◌or_refuse◌
  slot_found s e = rw e

  pub slot_absent : find G d nine ≡ none → slot_on G d nine ≡ refused ABSENT
  unfolding slot_on ◌or_refuse◌
  slot_absent e = rw e

-- the answer of a search
module _ (g : code.Geometry) (image nine : List ℕ) where
  pub judged : (r : found.Option SlotNo) → Finds g image r (find (geo g) (sectors_of g image) nine)
      → Judges g image (ok_or r Absent) (slot_on (geo g) (sectors_of g image) nine)
  judged (Some s) f = (slot_found _ _ _ _ (sym f.slot), f.within)
  judged None f = slot_absent _ _ _ (sym f.slot)
