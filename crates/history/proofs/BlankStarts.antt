-- A blank disc passes the check: it is itself a start of demand 3.
-- Assumes nothing.
use Rattle.std.specs.Prelude.{◌≡◌, refl, ℕ, Bool, cond, true, false, List, length}
use Rattle.std.proofs.Common.{sym, ap, ◌∙◌, arith}
use Rattle.std.proofs.Math.Option.{none, some}
use Rattle.lists.specs.Lists.{padded}
use Rattle.lists.specs.ListLaws.{padded_long}
use Rattle.format.specs.Refusals.{NAME, ok, ◌>>=◌, number, value_or}
use Rattle.format.proofs.RefusalLaws.{ok_is, or_ok, then_ok, zero_ok}
use Rattle.format.specs.Geometry.{Format, unknown, stated, Geometry, geometry, cut, flat}
use Rattle.format.specs.GeometryLaws.{ImageOf}
use Rattle.format.proofs.GeometryLaws.{no_disc, geometry_ok, cut_flat, flat_long}
use Rattle.format.specs.Formats.{GoodFormat}
use Rattle.format.proofs.Formats.{four, good_arranged, stated_cases}
use Rattle.format.specs.Names.{space, letters, disc_name}
use Rattle.format.proofs.NameLaws.{letters_true}
use Rattle.format.specs.Check.{broken}
use Rattle.format.specs.Effects.{blank_disc}
use Rattle.format.specs.Calls.{asked, blank, answer_by, check_answer_by, after_check, after_blank}
use Rattle.history.specs.Demand3.{BlankStarts}
use Rattle.soundness.specs.Laid.{laid_sound}
use Rattle.history.proofs.Steps.{image_bounded}
use Rattle.history.proofs.BlankLaid.{Passes, blank_full, blank_laid}

disc_nine : (name nine : List ℕ) → disc_name name ≡ some nine → length nine ≡ 9
unfolding disc_name
disc_nine name nine e = by (letters 1 9 name) refl e
  where
    by : (b : Bool) → letters 1 9 name ≡ b → cond b (some (padded 9 space name)) none ≡ some nine → length nine ≡ 9
    by true p q = let is : padded 9 space name ≡ nine = cc in sym (ap length is) ∙ padded_long 9 space name (letters_true 1 9 name p).high
    by false p q = let z : ◌≡◌ {A = ℕ} 0 1 = cc in absurd (omega arith)

pub passes : {F : Format} {G : Geometry} {n : ℕ} → GoodFormat F → ImageOf F G n → Passes G
passes {G = G} o i =
    record {
      bounded = image_bounded o i;
      some_track = i.some_track;
      four = rw i.per_track (four o);
      once = rw (i.in_order, i.per_track) o.passes_once;
    }

-- what an accepted blank leaves: an image of the same length that no rule of the check finds broken
pub blank_sound : (F : Format) → GoodFormat F → (image name image' : List ℕ) → blank F image name ≡ ok image'
    → (G : Geometry) × (geometry F (length image') ≡ ok G) × (broken G (cut F G image') ≡ 0) × (length image' ≡ length image)
unfolding blank
blank_sound F o image name image' e =
    let a = then_ok (geometry F (length image)) _ e in
    let G : Geometry = a.0 in
    let b = or_ok NAME (disc_name name) _ a.2 in
    let nine : List ℕ = b.0 in
    let i = geometry_ok F (length image) G a.1 in
    let long = disc_nine name nine b.1 in
    let arr = good_arranged o i in
    let z = blank_full G (passes o i) nine long in
    let is : flat F G (blank_disc G nine) ≡ image' = ok_is b.2 in
    let size : length image' ≡ length image = sym (ap length is) ∙ flat_long F G arr (blank_disc G nine) z ∙ sym i.long in
    let disc : cut F G image' ≡ blank_disc G nine = ap (cut F G) (sym is) ∙ cut_flat F G arr (blank_disc G nine) z in
    (G, ap (geometry F) size ∙ a.1, ap (broken G) disc ∙ laid_sound (blank_laid G (passes o i) nine long), size)

pub blank_long : (F : Format) → GoodFormat F → (image name image' : List ℕ) → blank F image name ≡ ok image' → length image' ≡ length image
blank_long F o image name image' e = (blank_sound F o image name image' e).3

-- for every kind of disc
pub blank_starts_of : (F : Format) → GoodFormat F → BlankStarts F
unfolding BlankStarts after_blank answer_by after_check check_answer_by asked number value_or ◌>>=◌
blank_starts_of F o image name e =
    let r = blank_sound F o image name (value_or image (blank F image name)) (zero_ok image (blank F image name) e) in
    rw r.1 (ap (λ (k : ℕ). record { number = 0; rule = k }) r.2)

none_starts : BlankStarts unknown
unfolding BlankStarts after_blank answer_by blank number ◌>>=◌
none_starts image name e = let z : ◌≡◌ {A = ℕ} 1 0 = rw (no_disc (length image)) at e in absurd (omega arith)

-- for whatever sectors and arrangement a caller states
pub blank_starts : (k a : ℕ) → BlankStarts (stated k a)
blank_starts = stated_cases BlankStarts blank_starts_of none_starts
