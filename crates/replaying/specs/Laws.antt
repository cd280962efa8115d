-- Laws of lists of writes, as the code meets them.
-- Assumes nothing.
use Rattle.std.specs.Prelude.{◌≡◌, ℕ, ◌≤◌, ◌<◌, Bool, ◌&&◌, cond, List, [], ◌∷◌, length, take, drop, eqb}
use Rattle.std.proofs.Math.Path.{refl, sym, ap}
use Rattle.std.proofs.Common.{◌∙◌, get_or-drop}
use native.Mathlib.Omega.{arith}
use Rattle.std.proofs.Math.Bool.{true, false}
use Rattle.std.proofs.lemmas.Bool.{false≢true}
use Rattle.std.proofs.Math.Option.{Option, none, some}
use Rattle.std.proofs.Math.ListN.{length-drop}
use Rattle.std.proofs.Math.Seq.{drop-drop}
use Rattle.std.proofs.lemmas.List.{get_or-take, drop-take}
use borrow.Author.Tests.{ne_eqb, eqb-true}
use Rattle.lists.specs.Lists.{is_some, byte}
use Rattle.lists.specs.ListLaws.{and_true}
use Rattle.format.specs.Refusals.{BAD-LIST, refused, number, ◌or_refuse◌}
use Rattle.format.specs.Geometry.{Geometry, on_disc, Disc, Write, written}
use Rattle.format.specs.Writes.{and_then, ended, held}
use Rattle.format.proofs.WriteLaws.{held_record, held_end}
use Rattle.format.specs.Calls.{replay_on}
use Rattle.geometry.specs.declared.Geometry as code
use Rattle.geometry.specs.Meaning.{geo, Valid}
use Rattle.geometry.specs.Laws.{number_on}
use Rattle.answers.specs.Meaning.{written_by}
use Rattle.replaying.specs.Meaning.{is_record, write_of, replayed}

-- ---- a record's sector

module _ (r : List ℕ) where
  pub record_on : (G : Geometry) → is_record G r ≡ true → on_disc G (byte r 1) (byte r 2) ≡ true
  unfolding is_record
  record_on G good = (and_true (eqb (byte r 0) 3) _ good).1

  pub number_inside : {g : code.Geometry} → Valid g → is_record (geo g) r ≡ true → (write_of (geo g) r).at < g.sectors
  number_inside {g} v good = number_on v (byte r 1) (byte r 2) (record_on (geo g) good)

-- ---- a list that begins with a record

-- bytes after kind 0
ended_not : (xs : List ℕ) → 0 < length xs → ended xs ≡ none
ended_not [] h = absurd (omega arith)
ended_not (x ∷ xs) h = refl

module _ (G : Geometry) (s : List ℕ) (h : 259 ≤ length s) where
  abbrev first : List ℕ
  first = take 259 s

  abbrev rest : List ℕ
  rest = drop 259 s

  byte_first : (k : ℕ) → k < 259 → byte first k ≡ byte s k
  byte_first k low = get_or-take 259 s k 0 low

  -- kind 0 with bytes after it, a record, or another kind
  record_at : held G s ≡ cond (eqb (byte s 0) 0) none (cond (is_record G first) (and_then (write_of G first) (held G rest)) none)
  unfolding is_record
  record_at =
      held_record G s h
      ∙ simp (
        get_or-drop,
        drop-drop,
        ended_not (drop 1 s) (omega (arith, length-drop 1 s)),
        byte_first 0 (omega arith),
        byte_first 1 (omega arith),
        byte_first 2 (omega arith),
        drop-take 3 256 s,
      )

  record_good : is_record G first ≡ true → held G s ≡ and_then (write_of G first) (held G rest)
  unfolding is_record
  record_good good =
      let three = eqb-true (byte first 0) 3 (and_true (eqb (byte first 0) 3) _ good).0 in
      record_at ∙ simp (ne_eqb (byte s 0) 0 (λ z. omega (arith, byte_first 0 (omega arith))), good)

  pub record_bad : is_record G first ≡ false → is_some (held G s) ≡ false
  record_bad bad = ap is_some record_at ∙ by (eqb (byte s 0) 0) (is_record G first) bad
    where
      by : (zero is : Bool) → is ≡ false → is_some (cond zero none (cond is (and_then (write_of G first) (held G rest)) none)) ≡ false
      by true is e = refl
      by false true e = absurd (false≢true (sym e))
      by false false e = refl

  pub rest_on : is_record G first ≡ true → is_some (held G rest) ≡ is_some (held G s)
  rest_on good = sym (ap is_some (record_good good) ∙ by (held G rest))
    where
      by : (o : Option (List Write)) → is_some (and_then (write_of G first) o) ≡ is_some o
      by none = refl
      by (some ws) = refl

  -- where it is a list
  module _ (is : is_some (held G s) ≡ true) where
    pub on_record : is_record G first ≡ true
    on_record = by (is_record G first) refl
      where
        by : (b : Bool) → is_record G first ≡ b → b ≡ true
        by true e = refl
        by false e = absurd (false≢true (sym (record_bad e) ∙ is))

    pub on_rest : is_some (held G rest) ≡ true
    on_rest = rest_on on_record ∙ is

    -- the rest on the sectors after the record's write
    pub on_replayed : (d after : Disc) → after ≡ written (write_of G first ∷ []) d → replayed G rest after ≡ replayed G s d
    unfolding replay_on ◌or_refuse◌
    on_replayed d after e =
        ap (replayed G rest) e
        ∙ by (held G rest) on_rest
        ∙ sym (ap (λ (o : Option (List Write)). written_by (o or_refuse BAD-LIST) d) (record_good on_record))
      where
        by : (o : Option (List Write)) → is_some o ≡ true
            → written_by (o or_refuse BAD-LIST) (written (write_of G first ∷ []) d) ≡ written_by (and_then (write_of G first) o or_refuse BAD-LIST) d
        by none e = absurd (false≢true e)
        by (some ws) e = refl

-- ---- the end of a list

module _ (G : Geometry) (s : List ℕ) (h : length s < 259) where
  pub end_is : is_some (held G s) ≡ (eqb (length s) 1 && eqb (byte s 0) 0)
  end_is = ap is_some (held_end G s h) ∙ by (eqb (length s) 1 && eqb (byte s 0) 0)
    where
      by : (b : Bool) → is_some (cond {A = Option (List Write)} b (some []) none) ≡ b
      by true = refl
      by false = refl

  pub end_replayed : (d : Disc) → d ≡ replayed G s d
  unfolding replay_on ◌or_refuse◌
  end_replayed d = sym (ap (λ (o : Option (List Write)). written_by (o or_refuse BAD-LIST) d) (held_end G s h) ∙ by (eqb (length s) 1 && eqb (byte s 0) 0))
    where
      by : (b : Bool) → written_by (cond {A = Option (List Write)} b (some []) none or_refuse BAD-LIST) d ≡ d
      by true = refl
      by false = refl

-- ---- what a replay answers

module _ (G : Geometry) (d : Disc) (s : List ℕ) where
  pub replay_refused : is_some (held G s) ≡ false → replay_on G d s ≡ refused BAD-LIST
  unfolding replay_on ◌or_refuse◌
  replay_refused = by (held G s)
    where
      by : (o : Option (List Write)) → is_some o ≡ false → (o or_refuse BAD-LIST) ≡ refused BAD-LIST
      by none e = refl
      by (some ws) e = absurd (false≢true (sym e))

  pub replay_done : is_some (held G s) ≡ true → 0 ≡ number (replay_on G d s)
  unfolding replay_on ◌or_refuse◌ number
  replay_done = by (held G s)
    where
      by : (o : Option (List Write)) → is_some o ≡ true → 0 ≡ number (o or_refuse BAD-LIST)
      by none e = absurd (false≢true e)
      by (some ws) e = refl
