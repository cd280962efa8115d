-- The answer of the check, as document 01's numbers.
-- Assumes nothing.
use Rattle.std.specs.Prelude.{◌≡◌, ℕ, List, length}
use Rattle.std.proofs.Math.Path.{ap}
use Rattle.std.proofs.Common.{◌∙◌}
use Rattle.format.specs.Refusals.{Try, Refusal, number_of, refused, ok, ◌>>=◌, number, value_or}
use Rattle.geometry.specs.Meaning.{form, geo, sectors_of}
use Rattle.geometry.specs.Laws.{Opened}
use Rattle.geometry.specs.declared.Geometry as code
use Rattle.format.specs.Geometry.{Format, Geometry, geometry, cut}
use Rattle.format.specs.Check.{broken}
use Rattle.format.specs.Calls.{asked, check_answer_by, after_check}

module _ (F : Format) (image : List ℕ) where
  pub after_refused : (e : Refusal) → geometry F (length image) ≡ refused e → after_check F image ≡ record { number = number_of e; rule = 0 }
  unfolding after_check check_answer_by asked ◌>>=◌ number value_or
  after_refused e wrong = ap (λ (t : Try Refusal Geometry). check_answer_by (t >>= (λ G. ok (broken G (cut F G image))))) wrong

  on_geometry : (G : Geometry) → geometry F (length image) ≡ ok G → (k : ℕ) → broken G (cut F G image) ≡ k
      → after_check F image ≡ record { number = 0; rule = k }
  unfolding after_check check_answer_by asked ◌>>=◌ number value_or
  on_geometry G e k h =
      ap (λ (t : Try Refusal Geometry). check_answer_by (t >>= (λ G. ok (broken G (cut F G image))))) e
      ∙ ap (λ (x : ℕ). check_answer_by (ok x)) h

pub after_rule : {F : Format} {g : code.Geometry} {image : List ℕ} → Opened F g image → (j : ℕ) → broken (geo g) (sectors_of g image) ≡ j
    → after_check F image ≡ record { number = 0; rule = j }
after_rule {g = g} {image = image} o j h = ap (λ (F : Format). after_check F image) o.kind_is ∙ on_geometry (form g) image (geo g) o.geometry_is j h
