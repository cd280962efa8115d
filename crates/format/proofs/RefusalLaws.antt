-- Laws of Refusals: what a run of tests has passed where it is accepted, and which numbers it cannot answer.
-- Assumes nothing.
use Rattle.std.specs.Prelude.{◌≡◌, ◌≢◌, ℕ, Bool}
use Rattle.std.proofs.Math.Path.{refl}
use Rattle.std.proofs.Common.{arith}
use Rattle.std.proofs.Math.Bool.{true, false}
use Rattle.std.proofs.Math.Option.{Option, none, some}
use Rattle.format.specs.Refusals.{Try, Refusal, SIZE, NAME, UNSOUND, ABSENT, TAKEN, PROTECTED, MODULE, ROOM, NOT-PLAIN, SHORT, NO-SECTOR, BAD-SHEET, TOTAL, BAD-LIST, number_of, refused, ok, ◌>>=◌, ◌>>◌, refuse◌if◌, ◌or_refuse◌, number, value_or}

-- ---- accepted

module _ {E A : Type 0} where
  pub refused_ok : {e : E} {x : A} → refused e ≡ ok x → ⊥
  refused_ok p = let z : ◌≡◌ {A = ℕ} 0 1 = cc in omega arith

  pub ok_is : {x y : A} → ◌≡◌ {A = Try E A} (ok x) (ok y) → x ≡ y
  ok_is p = cc

  pub if_ok : {x : A} (e : E) (b : Bool) (t : Try E A) → (refuse e if b >> t) ≡ ok x → (b ≡ false) × (t ≡ ok x)
  unfolding refuse◌if◌ ◌>>◌
  if_ok e true t p = absurd (refused_ok p)
  if_ok e false t p = (refl, p)

  pub or_ok : {B : Type 0} {x : A} (e : E) (o : Option B) (f : B → Try E A) → (o or_refuse e >>= f) ≡ ok x → (y : B) × (o ≡ some y) × (f y ≡ ok x)
  unfolding ◌or_refuse◌ ◌>>=◌
  or_ok e none f p = absurd (refused_ok p)
  or_ok e (some y) f p = (y, refl, p)

  pub then_ok : {B : Type 0} {x : A} (t : Try E B) (f : B → Try E A) → (t >>= f) ≡ ok x → (y : B) × (t ≡ ok y) × (f y ≡ ok x)
  unfolding ◌>>=◌
  then_ok (refused e) f p = absurd (refused_ok p)
  then_ok (ok y) f p = (y, refl, p)

-- ---- refused for another reason: the answer isn't j where no step of the order has the number j

module _ {A : Type 0} (j : ℕ) where
  pub never_if : (e : Refusal) (b : Bool) (t : Try Refusal A) → number_of e ≢ j → number t ≢ j → number (refuse e if b >> t) ≢ j
  unfolding number refuse◌if◌ ◌>>◌
  never_if e true t n h = n
  never_if e false t n h = h

  pub never_or : {B : Type 0} (e : Refusal) (o : Option B) (f : B → Try Refusal A) → number_of e ≢ j → ((b : B) → number (f b) ≢ j)
      → number (o or_refuse e >>= f) ≢ j
  unfolding number ◌or_refuse◌ ◌>>=◌
  never_or e none f n h = n
  never_or e (some b) f n h = h b

-- "0 is done": no refusal has the number 0
pub refusal_number : (e : Refusal) → number_of e ≢ 0
refusal_number SIZE h = omega arith
refusal_number NAME h = omega arith
refusal_number UNSOUND h = omega arith
refusal_number ABSENT h = omega arith
refusal_number TAKEN h = omega arith
refusal_number PROTECTED h = omega arith
refusal_number MODULE h = omega arith
refusal_number ROOM h = omega arith
refusal_number NOT-PLAIN h = omega arith
refusal_number SHORT h = omega arith
refusal_number NO-SECTOR h = omega arith
refusal_number BAD-SHEET h = omega arith
refusal_number TOTAL h = omega arith
refusal_number BAD-LIST h = omega arith

-- 0 is accepted
pub zero_ok : {A : Type 0} (a : A) (t : Try Refusal A) → number t ≡ 0 → t ≡ ok (value_or a t)
unfolding number value_or
zero_ok a (refused e) h = absurd (refusal_number e h)
zero_ok a (ok x) h = refl
