-- Laws that the calls share: refusals one after the other, and from the sectors that a call asks or leaves to its image.
-- Assumes nothing.
use Rattle.std.specs.Prelude.{◌≡◌, refl, ℕ, List, length, Ok, Err}
use Rattle.std.specs.declared.result.Result.{Result}
use Rattle.std.proofs.Common.{sym, ap, ◌∙◌}
use Rattle.std.proofs.Math.Path.{ap₂}
use Rattle.geometry.specs.Laws.{Opened, image_is, image_stays}
use Rattle.format.specs.Refusals.{Try, Refusal, refused, ok, ◌>>=◌, number, value_or}
use Rattle.format.specs.Geometry.{Format, Geometry, geometry, Disc, cut, flat, Write, written}
use Rattle.format.specs.Calls.{answered, answer_by, asked, changed}
use Rattle.geometry.specs.Meaning.{geo, sectors_of, form}
use Rattle.geometry.specs.declared.Geometry as code
use Rattle.refusals.specs.declared.Refusal as refusal
use Rattle.refusals.specs.Meaning.{reason, number_of_refusal, number_of_answer}
use Rattle.answers.specs.Meaning.{Refuses, written_by, Leaves}

-- ---- refused on the way

module _ {A B : Type 0} where
  pub refuses_then : (t : Try Refusal A) (f : A → Try Refusal B) (e : refusal.Refusal) → Refuses t e → Refuses (t >>= f) e
  unfolding ◌>>=◌
  refuses_then t f e h = rw h

pub refuses_leaves : (g : code.Geometry) (image : List ℕ) (t : Try Refusal (List Write)) (e : refusal.Refusal) → Refuses t e → Leaves g image image (Err e) t
unfolding number
refuses_leaves g image t e h = rw h (record { answers = refl; sectors_are = refl })

pub done_leaves : (g : code.Geometry) (before after : List ℕ) (t : Try Refusal (List Write)) (ws : List Write) → t ≡ ok ws
    → sectors_of g after ≡ written ws (sectors_of g before) → Leaves g before after (Ok tt) t
unfolding number
done_leaves g before after t ws e h =
    record {
      answers = sym (ap number e);
      sectors_are = h ∙ sym (ap (λ (t : Try Refusal (List Write)). written_by t (sectors_of g before)) e);
    }

-- ---- from sectors to the image

-- a call that writes nothing into the image
module _ {A : Type 0} (F : Format) (image : List ℕ) (f : Geometry → Disc → Try Refusal A) where
  pub asked_size : (e : refusal.Refusal) → geometry F (length image) ≡ refused (reason e) → asked F image f ≡ refused (reason e)
  unfolding asked ◌>>=◌
  asked_size e is = rw is

  pub asked_on : (G : Geometry) → geometry F (length image) ≡ ok G → asked F image f ≡ f G (cut F G image)
  unfolding asked ◌>>=◌
  asked_on G e = rw e

module _ (F : Format) (image : List ℕ) (f : Geometry → Disc → Try Refusal (List Write)) where
  pub changed_size : (e : refusal.Refusal) → geometry F (length image) ≡ refused (reason e)
      → answer_by image (changed F image f) ≡ answered (number_of_refusal e) image
  unfolding answer_by changed ◌>>=◌ number value_or
  changed_size e is = rw is

module _ {F : Format} {g : code.Geometry} {image : List ℕ} (o : Opened F g image) where
  pub asked_opened : {A : Type 0} (f : Geometry → Disc → Try Refusal A) → asked F image f ≡ f (geo g) (sectors_of g image)
  asked_opened {A} f = ap (λ (F : Format). asked F image f) o.kind_is ∙ asked_on (form g) image f (geo g) o.geometry_is

  pub changed_leaves : (f : Geometry → Disc → Try Refusal (List Write)) (after : List ℕ) (r : Result (Unit {0}) refusal.Refusal) → length after ≡ length image
      → Leaves g image after r (f (geo g) (sectors_of g image)) → answered (number_of_answer r) after ≡ answer_by image (changed F image f)
  unfolding answer_by changed ◌>>=◌ number value_or
  changed_leaves f after r long l = rw o.kind_is (rw o.geometry_is (by (f (geo g) (sectors_of g image)) l))
    where
      by : (t : Try Refusal (List Write)) → Leaves g image after r t
          → answered (number_of_answer r) after ≡ answer_by image (t >>= λ ws. ok (flat (form g) (geo g) (written ws (sectors_of g image))))
      by (refused q) l = ap₂ answered l.answers (image_stays o.on_image after long l.sectors_are)
      by (ok ws) l = ap₂ answered l.answers (image_is o.on_image after long l.sectors_are)
