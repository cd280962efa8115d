-- The refusals of save, one after the other.
-- Assumes nothing.
use Rattle.std.specs.Prelude.{◌≡◌, ℕ, ◌+◌, ◌≤◌, ◌<◌, Bool, not, leb, ltb, Some, None, Err}
use Rattle.std.specs.Prelude.{is_some as code_some}
use Rattle.std.specs.declared.option.Option as found
use Rattle.std.proofs.Math.Path.{refl, sym, ap}
use Rattle.std.proofs.Common.{subst, ◌∙◌}
use Rattle.std.proofs.Math.Bool.{true, false}
use Rattle.std.proofs.Math.Option.{Option, none, some}
use mathlib.Core.List.{List}
use Rattle.std.proofs.Math.ListN.{length}
use borrow.Author.Tests.{not-false, leb-true, leb-false, lt-ltb, le-ltb, ltb-false}
use Rattle.lists.specs.Lists.{is_some}
use Rattle.format.specs.Refusals.{NAME, MODULE, UNSOUND, TAKEN, ROOM, refused, ok, ◌>>=◌, ◌>>◌, refuse◌if◌, ◌or_refuse◌}
use Rattle.format.proofs.RefusalLaws.{ok_is, or_ok, if_ok}
use Rattle.format.specs.Geometry.{Geometry, Disc}
use Rattle.format.specs.Names.{stored}
use Rattle.format.specs.Layout.{Slot, free, open_slot, find}
use Rattle.format.specs.Check.{sound}
use Rattle.format.specs.Modules.{Module, is_module, storable, sectors_for}
use Rattle.format.specs.Effects.{growth, needed, save_writes}
use Rattle.format.specs.Calls.{save_before_on, save_on}
use Rattle.refusals.specs.declared.Refusal as code
use Rattle.refusals.specs.Meaning.{reason}
use Rattle.names.specs.Answer.{parsed, parsed_err, parsed_name}
use Rattle.slots.specs.declared.slot_no.SlotNo.{SlotNo}
use Rattle.directory.specs.Meaning.{found_of}
use Rattle.answers.specs.Meaning.{Refuses}
use Rattle.answers.specs.Laws.{refuses_then}
use Rattle.saving.specs.Meaning.{handed, save_name_on, vacancy_on, save_as}

-- ---- the refusals 2, 7 and 3

module _ (G : Geometry) (d : Disc) (name : List ℕ) (m : Module) where
  pub name_none : stored name ≡ none → save_name_on G d name m ≡ refused NAME
  unfolding save_name_on ◌>>=◌ ◌or_refuse◌
  name_none e = rw e

  pub name_err : (e : code.Refusal) → Err e ≡ parsed (stored name) → Refuses (save_name_on G d name m) e
  name_err e is = name_none (parsed_err _ e is) ∙ ap (λ (e : code.Refusal). refused (reason e)) (sym (parsed_name _ e is))

  module _ (nine : List ℕ) (e : stored name ≡ some nine) where
    pub name_module : storable m ≡ false → save_name_on G d name m ≡ refused MODULE
    unfolding save_name_on ◌>>=◌ ◌>>◌ refuse◌if◌ ◌or_refuse◌
    name_module a = rw (e, a)

    module _ (a : storable m ≡ true) where
      pub name_unsound : sound G d ≡ false → save_name_on G d name m ≡ refused UNSOUND
      unfolding save_name_on ◌>>=◌ ◌>>◌ refuse◌if◌ ◌or_refuse◌
      name_unsound s = rw (e, a, s)

      pub name_sound : sound G d ≡ true → save_name_on G d name m ≡ ok nine
      unfolding save_name_on ◌>>=◌ ◌>>◌ refuse◌if◌ ◌or_refuse◌
      name_sound s = rw (e, a, s)

  -- what is known where none of them applies
  pub name_ok : (nine : List ℕ) → save_name_on G d name m ≡ ok nine → (storable m ≡ true) × (sound G d ≡ true)
  unfolding save_name_on
  name_ok nine p =
      let typed = or_ok _ (stored name) _ p in
      let judged = if_ok _ _ _ typed.2 in
      let checked = if_ok _ _ _ judged.1 in
      (not-false _ judged.0, not-false _ checked.0)

  -- the call, by what it does after them
  pub save_is : save_on G d name m ≡ (save_name_on G d name m >>= λ nine. save_as G d nine m)
  unfolding save_on save_before_on save_name_on save_as vacancy_on ◌>>=◌ ◌>>◌ refuse◌if◌ ◌or_refuse◌
  save_is = by (λ nine. is_some (find G d nine)) (ltb (length (free G d)) (needed G d (length m.bytes))) (stored name) (not (storable m)) (not (sound G d))
    where
      by_taken : (nine : List ℕ) (b c : Bool) → ((refuse TAKEN if b >> ok nine) >>= λ nine. (refuse ROOM if c >> ok (save_writes G d nine m)))
          ≡ ((refuse TAKEN if b >> (refuse ROOM if c >> ok (open_slot G d))) >>= λ s. ok (save_writes G d nine m))
      by_taken nine true c = refl
      by_taken nine false true = refl
      by_taken nine false false = refl

      by : (taken : List ℕ → Bool) (c : Bool) (o : Option (List ℕ)) (a b : Bool)
          → ((o or_refuse NAME >>= λ nine. (refuse MODULE if a >> (refuse UNSOUND if b >> (refuse TAKEN if taken nine >> ok nine))))
          >>= λ nine. (refuse ROOM if c >> ok (save_writes G d nine m)))
          ≡ ((o or_refuse NAME >>= λ nine. (refuse MODULE if a >> (refuse UNSOUND if b >> ok nine)))
          >>= λ nine. ((refuse TAKEN if taken nine >> (refuse ROOM if c >> ok (open_slot G d))) >>= λ s. ok (save_writes G d nine m)))
      by taken c none a b = refl
      by taken c (some nine) true b = refl
      by taken c (some nine) false true = refl
      by taken c (some nine) false false = by_taken nine (taken nine) c

-- the same for what is handed in, whose transfer address is not asked
module _ (G : Geometry) (d : Disc) (name : List ℕ) (page start transfer : ℕ) (sheet : List ℕ) where
  transfer_free : save_name_on G d name (handed page start 0 sheet) ≡ save_name_on G d name (handed page start transfer sheet)
  unfolding save_name_on storable is_module
  transfer_free = refl

  pub save_refused : (e : code.Refusal) → Refuses (save_name_on G d name (handed page start 0 sheet)) e
      → Refuses (save_on G d name (handed page start transfer sheet)) e
  save_refused e h = save_is G d name (handed page start transfer sheet) ∙ refuses_then _ _ e (sym transfer_free ∙ h)

  pub save_named : (nine : List ℕ) → save_name_on G d name (handed page start 0 sheet) ≡ ok nine
      → save_on G d name (handed page start transfer sheet) ≡ save_as G d nine (handed page start transfer sheet)
  unfolding ◌>>=◌
  save_named nine e = rw (save_is G d name (handed page start transfer sheet), sym transfer_free ∙ e) refl

-- ---- the refusals 5 and 8

-- whether a search found
pub found_some : (d : Disc) (r : found.Option SlotNo) {s : Option Slot} → found_of d r ≡ s → is_some s ≡ code_some r
found_some d (Some x) e = ap is_some (sym e)
found_some d None e = ap is_some (sym e)

module _ (G : Geometry) (d : Disc) (nine : List ℕ) (L : ℕ) where
  pub vacancy_taken : is_some (find G d nine) ≡ true → vacancy_on G d nine L ≡ refused TAKEN
  unfolding vacancy_on ◌>>◌ refuse◌if◌
  vacancy_taken f = rw f

  module _ (f : is_some (find G d nine) ≡ false) (count : ℕ) (e : count ≡ sectors_for L) where
    pub vacancy_room : leb (count + growth G d) (length (free G d)) ≡ false → vacancy_on G d nine L ≡ refused ROOM
    unfolding vacancy_on needed ◌>>◌ refuse◌if◌
    vacancy_room h = rw (f, lt-ltb _ _ (subst (λ (k : ℕ). length (free G d) < k + growth G d) e (leb-false _ _ h)))

    pub vacancy_open : leb (count + growth G d) (length (free G d)) ≡ true → vacancy_on G d nine L ≡ ok (open_slot G d)
    unfolding vacancy_on needed ◌>>◌ refuse◌if◌
    vacancy_open h = rw (f, le-ltb _ _ (subst (λ (k : ℕ). k + growth G d ≤ length (free G d)) e (leb-true _ _ h)))

  -- what is known where neither applies
  pub vacancy_ok : (o : Option Slot) → vacancy_on G d nine L ≡ ok o → (needed G d L ≤ length (free G d)) × (open_slot G d ≡ o)
  unfolding vacancy_on
  vacancy_ok o p =
      let fresh = if_ok _ _ _ p in
      let room = if_ok _ _ _ fresh.1 in
      (ltb-false _ _ room.0, ok_is room.1)

module _ (G : Geometry) (d : Disc) (nine : List ℕ) (m : Module) where
  -- refused for the same reason
  pub save_kept_out : (e : code.Refusal) → Refuses (vacancy_on G d nine (length m.bytes)) e → Refuses (save_as G d nine m) e
  unfolding save_as
  save_kept_out e h = refuses_then _ _ e h

  pub save_ok : (o : Option Slot) → vacancy_on G d nine (length m.bytes) ≡ ok o → save_as G d nine m ≡ ok (save_writes G d nine m)
  unfolding save_as ◌>>=◌
  save_ok o p = rw p
