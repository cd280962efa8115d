-- Laws of one sector: its bytes where they lie in the image, and how it is filled.
-- Assumes nothing.
use Rattle.std.specs.Prelude.{◌≡◌, refl, Bool, false, ◌&&◌, List, [], ◌∷◌, take, eqb}
use Rattle.std.proofs.Math.Path.{sym, ap}
use Rattle.std.proofs.Common.{◌∙◌, length-take, length-drop, get_or-drop, drop-cons, eq-eqb, ne_eqb}
use Prim.Native.Nat.{ℕ, zero, suc, min, ◌+◌, ◌-◌, ◌<◌}
use native.Mathlib.Omega.{arith}
use Rattle.std.proofs.Math.ListN.{length, drop}
use Rattle.std.proofs.Math.Seq.{slice, drop-drop}
use Rattle.geometry.specs.Laws.{each_once}
use Rattle.lists.specs.Lists.{all, byte}
use Rattle.lists.specs.ListLaws.{drop_take}
use Rattle.format.specs.Geometry.{start_of, sector}
use Rattle.format.proofs.GeometryLaws.{sector_cut, byte_cut}
use Rattle.format.specs.Effects.{body}
use Rattle.geometry.specs.Meaning.{geo, sectors_of, Image, form}
use Rattle.geometry.specs.declared.Geometry.{Geometry}
use Rattle.reading.specs.Plain.{filled}

-- ---- a sector's bytes in its image

-- from offset k on
pub sector_from : {g : Geometry} {image : List ℕ} → Image g image → (n k : ℕ) → n < g.sectors
    → drop k (sector (sectors_of g image) n) ≡ slice (start_of (form g) (geo g) n + k) (start_of (form g) (geo g) n + 256) image
sector_from {g} {image} i n k on =
    let start : ℕ = start_of (form g) (geo g) n in
    ap (drop k) (sector_cut (form g) (geo g) (each_once i.valid) image n (omega (arith, i.valid.total)) ∙ sym (drop_take start 256 image))
    ∙ drop-drop k start (take (start + 256) image)

-- what stands in an image are bytes
pub body_small : {g : Geometry} {image : List ℕ} → Image g image → ((i : ℕ) → byte image i < 256)
    → (n : ℕ) → n < g.sectors → (k : ℕ) → k < 254 → byte (body (sector (sectors_of g image) n)) k < 256
body_small {g} {image} i small n on k h =
    let e = get_or-drop 2 (sector (sectors_of g image) n) k 0
    ∙ byte_cut (form g) (geo g) (each_once i.valid) image n (2 + k) (omega (arith, i.valid.total)) (omega arith) in
    omega (arith, e, small (start_of (form g) (geo g) n + (2 + k)))

-- ---- how a sector is filled

drop_most : (left : ℕ) (xs : List ℕ) → drop (length (take left xs)) xs ≡ drop left xs
drop_most zero xs = refl
drop_most (suc left) [] = refl
drop_most (suc left) (x ∷ xs) = drop_most left xs

module _ (s : List ℕ) (k left size : ℕ) (long : length s ≡ 256) (on : k < 256) (e : size ≡ min left (255 - k)) where
  after_byte : drop k s ≡ byte s k ∷ drop (suc k) s
  after_byte = drop-cons s k 0 (omega arith)

  fits : length (take left (drop (suc k) s)) ≡ size
  fits = omega (arith, length-take left (drop (suc k) s), length-drop (suc k) s)

  pub filled_yes : byte s k ≡ size → filled left (drop k s) ≡ all (eqb 0) (drop (k + 1 + size) s)
  unfolding filled
  filled_yes q =
      let same : byte s k ≡ length (take left (drop (suc k) s)) = q ∙ sym fits in
      let next : suc k + size ≡ k + 1 + size = omega arith in
      let rest = sym (drop_most left (drop (suc k) s)) ∙ ap (λ (j : ℕ). drop j (drop (suc k) s)) fits ∙ drop-drop size (suc k) s in
      ap (filled left) after_byte
      ∙ ap (λ (t : Bool). t && all (eqb 0) (drop left (drop (suc k) s))) (eq-eqb _ _ same)
      ∙ ap (all (eqb 0)) (rest ∙ ap (λ (j : ℕ). drop j s) next)

  pub filled_no : (byte s k ≡ size → ⊥) → filled left (drop k s) ≡ false
  unfolding filled
  filled_no q =
      ap (filled left) after_byte
      ∙ ap (λ (t : Bool). t && all (eqb 0) (drop left (drop (suc k) s))) (ne_eqb _ _ (λ same. q (same ∙ fits)))
