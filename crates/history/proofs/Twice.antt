-- Two commands that give lists, the second on the image that the first left.
-- Assumes nothing.
use Rattle.std.specs.Prelude.{◌≡◌, ℕ, ◌≤◌, List, length}
use Rattle.std.proofs.Common.{ap, ◌∙◌, subst}
use Rattle.format.specs.Refusals.{ok}
use Rattle.format.specs.Geometry.{Format, Geometry, geometry, Disc, cut, flat, Write, written}
use Rattle.format.specs.Formats.{GoodFormat}
use Rattle.format.specs.GeometryLaws.{Full}
use Rattle.format.specs.Writes.{write_list}
use Rattle.history.specs.Cuts.{Writing, writes_on, after_writing}
use Rattle.history.proofs.Steps.{arranged_here, full_here, now_sized, now_cut}
use Rattle.history.proofs.Writings.{made_by}
use Rattle.history.proofs.Quiet.{writing_whole, whole_full}

-- both accepted: their writes, and what is left
pub record Both (F : Format) (G : Geometry) (image : List ℕ) (w : Writing) (buffer : List ℕ) (w' : Writing) (left : List ℕ) : Type 0 where
  pub ws : List Write
  pub vs : List Write
  pub passed : writes_on w G (cut F G image) ≡ ok ws
  pub fits : length (write_list G ws) ≤ length buffer
  pub passed' : writes_on w' G (written ws (cut F G image)) ≡ ok vs
  pub left_is : left ≡ flat F G (written vs (written ws (cut F G image)))
  pub full : Full G (written vs (written ws (cut F G image)))

pub both_made : {F : Format} → GoodFormat F → (image : List ℕ) (G : Geometry) → geometry F (length image) ≡ ok G
    → (w : Writing) (buffer : List ℕ) (w' : Writing) (buffer' : List ℕ)
    → (after_writing F image w buffer).number ≡ 0 → (after_writing F (after_writing F image w buffer).image w' buffer').number ≡ 0
    → Both F G image w buffer w' (after_writing F (after_writing F image w buffer).image w' buffer').image
both_made {F} o image G g w buffer w' buffer' e e' =
    let d : Disc = cut F G image in
    let z = full_here o image G g in
    let m = made_by F image G g w buffer e in
    let z₁ = whole_full z m.ws (writing_whole G d z w m.ws m.passed) in
    let image₁ : List ℕ = flat F G (written m.ws d) in
    let cut₁ : cut F G image₁ ≡ written m.ws d = now_cut F G (arranged_here o image G g) image g m.ws z₁ in
    let g₁ = now_sized F G (arranged_here o image G g) image g m.ws z₁ in
    let m₁ = made_by F image₁ G g₁ w' buffer' (subst (λ (i : List ℕ). (after_writing F i w' buffer').number ≡ 0) m.image_is e') in
    let passed₁ : writes_on w' G (written m.ws d) ≡ ok m₁.ws = subst (λ (x : Disc). writes_on w' G x ≡ ok m₁.ws) cut₁ m₁.passed in
    record {
      ws = m.ws;
      vs = m₁.ws;
      passed = m.passed;
      fits = m.fits;
      passed' = passed₁;
      left_is = ap (λ (i : List ℕ). (after_writing F i w' buffer').image) m.image_is ∙ m₁.image_is ∙ ap (λ (x : Disc). flat F G (written m₁.ws x)) cut₁;
      full = whole_full z₁ m₁.ws (writing_whole G (written m.ws d) z₁ w' m₁.ws passed₁);
    }
