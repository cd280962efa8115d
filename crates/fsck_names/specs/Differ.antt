-- Rule 4: no two entries with the same nine name bytes.
-- Assumes nothing.
use Rattle.std.specs.Prelude.{◌≡◌, Bool, ◌&&◌, ◌||◌}
use Rattle.std.proofs.Math.Path.{refl, sym, ap, ap₂}
use Rattle.std.proofs.Common.{◌∙◌}
use Rattle.std.proofs.Math.Bool.{true, false, not, and-true, or-false, and_assoc, or_assoc}
use mathlib.Core.List.{List, [], ◌∷◌, ◌++◌, append_assoc}
use Rattle.lists.specs.Lists.{any, same}
use Rattle.format.specs.Geometry.{Geometry, Disc}
use Rattle.format.specs.Layout.{Slot, free_slot, in_use, name_of, entries}
use Rattle.format.specs.Check.{differ, rule4}
use Rattle.slots.specs.InOrder.{use_free, use_used}

-- one of the entries has the name of s
unfoldable pub named : Slot → List Slot → Bool
named s es = any (λ t. same (name_of s) (name_of t)) es

-- the entries es have other names than each other and than those of rest
unfoldable pub apart : List Slot → List Slot → Bool
apart [] rest = true
apart (s ∷ es) rest = not (named s (es ++ rest)) && apart es rest

-- ---- lists one after the other

named_join : (s : Slot) (es fs : List Slot) → named s (es ++ fs) ≡ named s es || named s fs
unfolding named
named_join s [] fs = refl
named_join s (e ∷ es) fs =
    let here = same (name_of s) (name_of e) in
    ap (λ (b : Bool). here || b) (named_join s es fs) ∙ sym (or_assoc here (named s es) (named s fs))

apart_join : (es fs rest : List Slot) → apart (es ++ fs) rest ≡ apart es (fs ++ rest) && apart fs rest
unfolding apart
apart_join [] fs rest = refl
apart_join (s ∷ es) fs rest =
    ap₂ (λ (x : List Slot) (b : Bool). not (named s x) && b) (append_assoc es fs rest) (apart_join es fs rest)
    ∙ sym (and_assoc (not (named s (es ++ (fs ++ rest)))) (apart es (fs ++ rest)) (apart fs rest))

differ_join : (es rest : List Slot) → differ (es ++ rest) ≡ apart es rest && differ rest
unfolding differ apart named
differ_join [] rest = refl
differ_join (s ∷ es) rest =
    ap (λ (b : Bool). not (named s (es ++ rest)) && b) (differ_join es rest)
    ∙ sym (and_assoc (not (named s (es ++ rest))) (apart es rest) (differ rest))

-- ---- the turns of a loop: L is what is left, es what this turn takes and fs what it leaves

module _ (s : Slot) {L : List Slot} {b : Bool} (i : named s L ≡ b) where
  pub named_over : L ≡ [] → false ≡ b
  unfolding named
  named_over e = ap (named s) (sym e) ∙ i

  module _ (es fs : List Slot) (h : L ≡ es ++ fs) {r : Bool} (e : r ≡ named s es) where
    turn : r || named s fs ≡ b
    turn = ap (λ (x : Bool). x || named s fs) e ∙ sym (named_join s es fs) ∙ ap (named s) (sym h) ∙ i

    pub named_here : r ≡ true → true ≡ b
    named_here q = ap (λ (x : Bool). x || named s fs) (sym q) ∙ turn

    pub named_later : r ≡ false → named s fs ≡ b
    named_later q = ap (λ (x : Bool). x || named s fs) (sym q) ∙ turn

module _ (rest : List Slot) {L : List Slot} {b : Bool} (i : apart L rest ≡ b) where
  pub apart_over : L ≡ [] → true ≡ b
  unfolding apart
  apart_over e = ap (λ (x : List Slot). apart x rest) (sym e) ∙ i

  module _ (es fs : List Slot) (h : L ≡ es ++ fs) {r : Bool} (e : r ≡ apart es (fs ++ rest)) where
    apart_turn : r && apart fs rest ≡ b
    apart_turn = ap (λ (x : Bool). x && apart fs rest) e ∙ sym (apart_join es fs rest) ∙ ap (λ (x : List Slot). apart x rest) (sym h) ∙ i

    pub apart_not : r ≡ false → false ≡ b
    apart_not q = ap (λ (x : Bool). x && apart fs rest) (sym q) ∙ apart_turn

    pub apart_next : r ≡ true → apart fs rest ≡ b
    apart_next q = ap (λ (x : Bool). x && apart fs rest) (sym q) ∙ apart_turn

module _ {L : List Slot} {b : Bool} (i : differ L ≡ b) where
  pub differ_over : L ≡ [] → true ≡ b
  unfolding differ
  differ_over e = ap differ (sym e) ∙ i

  module _ (es fs : List Slot) (h : L ≡ es ++ fs) {r : Bool} (e : r ≡ apart es fs) where
    differ_turn : r && differ fs ≡ b
    differ_turn = ap (λ (x : Bool). x && differ fs) e ∙ sym (differ_join es fs) ∙ ap differ (sym h) ∙ i

    pub differ_not : r ≡ false → false ≡ b
    differ_not q = ap (λ (x : Bool). x && differ fs) (sym q) ∙ differ_turn

    pub differ_next : r ≡ true → differ fs ≡ b
    differ_next q = ap (λ (x : Bool). x && differ fs) (sym q) ∙ differ_turn

-- ---- one slot

module _ (s t : Slot) {a : Bool} (p : a ≡ same (name_of s) (name_of t)) where
  pub other_name : a ≡ false → false ≡ named s (in_use (t ∷ []))
  unfolding named
  other_name e = by (free_slot t) refl
    where
      by : (b : Bool) → free_slot t ≡ b → false ≡ named s (in_use (t ∷ []))
      by true q = sym (ap (named s) (use_free t q))
      by false q = sym (ap (named s) (use_used t q) ∙ or-false (same (name_of s) (name_of t)) ∙ sym p ∙ e)

  pub same_name : (b : Bool) → a ≡ true → b ≡ free_slot t → not b ≡ named s (in_use (t ∷ []))
  unfolding named
  same_name true e q = sym (ap (named s) (use_free t (sym q)))
  same_name false e q = sym (ap (named s) (use_used t (sym q)) ∙ or-false (same (name_of s) (name_of t)) ∙ sym p ∙ e)

pub apart_free : (s : Slot) (rest : List Slot) → free_slot s ≡ true → true ≡ apart (in_use (s ∷ [])) rest
unfolding apart
apart_free s rest e = sym (ap (λ (x : List Slot). apart x rest) (use_free s e))

-- in two steps: the entries after it in its sector, and those of later sectors
module _ (s : Slot) (es fs : List Slot) (u : free_slot s ≡ false) {a : Bool} (p : a ≡ named s es) where
  both : {b : Bool} → b ≡ named s fs → not (a || b) ≡ apart (in_use (s ∷ [])) (es ++ fs)
  unfolding apart
  both {b} q =
      ap₂ (λ (x y : Bool). not (x || y)) p q ∙ ap not (sym (named_join s es fs))
      ∙ sym (ap (λ (x : List Slot). apart x (es ++ fs)) (use_used s u) ∙ and-true (not (named s (es ++ fs))))

  pub apart_taken : a ≡ true → false ≡ apart (in_use (s ∷ [])) (es ++ fs)
  apart_taken h = ap (λ (x : Bool). not (x || named s fs)) (sym h) ∙ both refl

  pub apart_later : {b : Bool} → a ≡ false → b ≡ named s fs → not b ≡ apart (in_use (s ∷ [])) (es ++ fs)
  apart_later {b} h q = ap (λ (x : Bool). not (x || b)) (sym h) ∙ both q

-- ---- the directory

pub rule4_is : (G : Geometry) (d : Disc) → differ (entries G d) ≡ rule4 G d
unfolding rule4
rule4_is G d = refl
