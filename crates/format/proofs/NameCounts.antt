-- How many of a list of entries have a name. No two have the same name just where no name is had by more than one.
-- Assumes nothing.
use Rattle.std.specs.Prelude.{◌≡◌, refl, ◌≢◌, ℕ, suc, ◌+◌, ◌≤◌, not, true, false, List, [], ◌∷◌, ◌++◌, length}
use Rattle.std.proofs.Common.{sym, ap, ◌∙◌, arith, true≢false, length-append}
use Rattle.std.proofs.lemmas.Bool.{not-true}
use Rattle.lists.specs.Lists.{any, same}
use Rattle.lists.specs.ListLaws.{and_true, true_and, filter_join, filter_yes, filter_no, equal, unequal, same_or_not, true_same}
use Rattle.format.specs.Layout.{Slot, name_of}
use Rattle.format.specs.Check.{differ}
use Rattle.format.specs.NameCounts.{of_name, called}

pub called_none : (x : List ℕ) → called x [] ≡ 0
unfolding called
called_none x = refl

pub called_join : (x : List ℕ) (ss ts : List Slot) → called x (ss ++ ts) ≡ called x ss + called x ts
unfolding called
called_join x ss ts = ap length (filter_join _ ss ts) ∙ length-append (of_name x ss) (of_name x ts)

pub called_at : (x : List ℕ) (pre post : List Slot) (s : Slot) → called x (pre ++ s ∷ post) ≡ called x pre + called x (s ∷ []) + called x post
called_at x pre post s = omega (arith, called_join x pre (s ∷ post), called_join x (s ∷ []) post)

pub called_here : (x : List ℕ) (s : Slot) (ss : List Slot) → name_of s ≡ x → called x (s ∷ ss) ≡ suc (called x ss)
unfolding called
called_here x s ss e = ap length (filter_yes (λ (s : Slot). same (name_of s) x) s ss (true_same e))

pub called_past : (x : List ℕ) (s : Slot) (ss : List Slot) → name_of s ≢ x → called x (s ∷ ss) ≡ called x ss
unfolding called
called_past x s ss e =
    elim (same_or_not (name_of s) x) [
      | equal q r ↦ absurd (e q)
      | unequal q r ↦ ap length (filter_no (λ (s : Slot). same (name_of s) x) s ss r)
    ]

any_called : (x : List ℕ) (ss : List Slot) → any (λ t. same x (name_of t)) ss ≡ false → called x ss ≡ 0
any_called x [] e = called_none x
any_called x (s ∷ ss) e =
    elim (same_or_not x (name_of s)) [
      | equal q r ↦ absurd (true≢false (sym (rw r) ∙ e))
      | unequal q r ↦ called_past x s ss (λ w. q (sym w)) ∙ any_called x ss (rw r at e)
    ]

called_any : (x : List ℕ) (ss : List Slot) → called x ss ≡ 0 → any (λ t. same x (name_of t)) ss ≡ false
called_any x [] e = refl
called_any x (s ∷ ss) e =
    elim (same_or_not x (name_of s)) [
      | equal q r ↦ absurd (omega (arith, called_here x s ss (sym q)))
      | unequal q r ↦ rw r (called_any x ss (omega (arith, called_past x s ss (λ w. q (sym w)))))
    ]

-- rule 4's test, in both directions
pub differ_few : (ss : List Slot) → differ ss ≡ true → (x : List ℕ) → called x ss ≤ 1
unfolding differ
differ_few [] e x = omega (arith, called_none x)
differ_few (s ∷ ss) e x =
    let h = and_true _ _ e in
    let k = any_called (name_of s) ss (not-true _ h.0) in
    elim (same_or_not (name_of s) x) [
      | equal q r ↦ omega (arith, called_here x s ss q, ap (λ (y : List ℕ). called y ss) q)
      | unequal q r ↦ omega (arith, called_past x s ss q, differ_few ss h.1 x)
    ]

pub few_differ : (ss : List Slot) → ((x : List ℕ) → called x ss ≤ 1) → differ ss ≡ true
unfolding differ
few_differ [] h = refl
few_differ (s ∷ ss) h =
    true_and (ap not (called_any (name_of s) ss (omega (arith, h (name_of s), called_here (name_of s) s ss refl))))
    (few_differ ss (λ x. elim (same_or_not (name_of s) x) [
      | equal q r ↦ omega (arith, h x, called_here x s ss q)
      | unequal q r ↦ omega (arith, h x, called_past x s ss q)
    ]))
