-- Laws of slots: a part of a sector where it lies in the image, and the bytes of a slot by their offset in its sector.
-- Assumes nothing.
use Rattle.std.specs.Prelude.{◌≡◌, refl, ℕ, zero, suc, ◌+◌, ◌-◌, ◌≤◌, ◌<◌, Bool, ◌&&◌, List, [], ◌∷◌, length, take, drop, replicate, eqb}
use Rattle.std.proofs.Common.{sym, ap, ap₂, ◌∙◌, arith, take-take, drop-drop, ne_eqb}
use Rattle.std.proofs.Math.Seq.{slice}
use Rattle.byte_loops.specs.Laws.{part_long}
use Rattle.geometry.specs.Laws.{each_once, start_fits}
use Rattle.lists.specs.Lists.{all, same}
use Rattle.lists.specs.ListLaws.{drop_take}
use Rattle.format.specs.Geometry.{start_of, sector, Disc}
use Rattle.format.proofs.GeometryLaws.{sector_cut}
use Rattle.geometry.specs.Meaning.{geo, sectors_of, Image, form}
use Rattle.geometry.specs.declared.Geometry.{Geometry}
use Rattle.format.specs.Layout.{slots_each, slot_start, slot_at, name_of, empty_slot, free_slot}

-- ---- a part of a sector is a part of its image

pub part_cut : {g : Geometry} {image : List ℕ} → Image g image → (n k L : ℕ) → n < g.sectors → k + L ≤ 256
    → take L (drop (start_of (form g) (geo g) n + k) image) ≡ take L (drop k (sector (sectors_of g image) n))
part_cut {g} {image} i n k L on fits =
    let from : ℕ = start_of (form g) (geo g) n in
    let rest : k + (256 - k) ≡ 256 = omega arith in
    sym (ap (λ (s : List ℕ). take L (drop k s)) (sector_cut (form g) (geo g) (each_once i.valid) image n (omega (arith, i.valid.total)))
    ∙ ap (λ (m : ℕ). take L (drop k (take m (drop from image)))) (sym rest)
    ∙ ap (take L) (drop_take k (256 - k) (drop from image))
    ∙ take-take L (256 - k) (drop k (drop from image)) (omega arith)
    ∙ ap (take L) (drop-drop k from image))

-- ---- a slot's bytes

-- the name is the front of the slot
pub name_front : (d : Disc) (n i : ℕ) → name_of (slot_at d n i) ≡ take 9 (drop (slot_start i) (sector d n))
unfolding slot_at
name_front d n i = take-take 9 16 (drop (slot_start i) (sector d n)) (omega arith)

pub name_nine : {g : Geometry} {image : List ℕ} → Image g image → (n i : ℕ) → n < g.sectors → i < slots_each
    → length (name_of (slot_at (sectors_of g image) n i)) ≡ 9
name_nine {g} {image} im n i on h =
    let from : ℕ = start_of (form g) (geo g) n + slot_start i in
    ap length (name_front (sectors_of g image) n i ∙ sym (part_cut im n (slot_start i) 9 on (omega arith)))
    ∙ part_long image from 9 (omega (arith, start_fits im n on))

-- the name, by its bytes in the image
pub name_at : {g : Geometry} {image : List ℕ} → Image g image → (n i : ℕ) → n < g.sectors → i < slots_each
    → name_of (slot_at (sectors_of g image) n i) ≡ take 9 (drop (start_of (form g) (geo g) n + slot_start i) image)
name_at {g} {image} im n i on h = name_front (sectors_of g image) n i ∙ sym (part_cut im n (slot_start i) 9 on (omega arith))

-- ---- a free slot, by its bytes in the image

zeros_same : (n : ℕ) (xs : List ℕ) → length xs ≡ n → all (eqb 0) xs ≡ same xs (replicate n 0)
zeros_same zero [] h = refl
zeros_same zero (x ∷ xs) h = absurd (omega arith)
zeros_same (suc n) [] h = absurd (omega arith)
zeros_same (suc n) (x ∷ xs) h = ap₂ (λ (a b : Bool). a && b) (flip x) (zeros_same n xs (omega arith))
  where
    flip : (x : ℕ) → eqb 0 x ≡ eqb x 0
    flip zero = refl
    flip (suc x) = ne_eqb 0 (suc x) (λ e. omega arith) ∙ sym (ne_eqb (suc x) 0 (λ e. omega arith))

pub free_at : {g : Geometry} {image : List ℕ} → Image g image → (n i at : ℕ) → n < g.sectors → i < slots_each
    → at ≡ start_of (form g) (geo g) n + slot_start i → all (eqb 0) (slice at (at + 16) image) ≡ free_slot (slot_at (sectors_of g image) n i)
unfolding free_slot slot_at empty_slot
free_at {g} {image} im n i at on h e =
    let from : ℕ = start_of (form g) (geo g) n + slot_start i in
    let long : length (take 16 (drop from image)) ≡ 16 = part_long image from 16 (omega (arith, start_fits im n on)) in
    ap (λ (k : ℕ). all (eqb 0) (slice k (k + 16) image)) e
    ∙ ap (all (eqb 0)) (drop_take from 16 image)
    ∙ zeros_same 16 (take 16 (drop from image)) long
    ∙ ap (λ (xs : List ℕ). same xs (replicate 16 0)) (part_cut im n (slot_start i) 16 on (omega arith))

-- ---- nine bytes, lent as a part of the image

module _ {g : Geometry} {image : List ℕ} (im : Image g image) where
  -- of sector n from offset k on
  pub nine_at : (n k start : ℕ) → n < g.sectors → k + 9 ≤ 256 → start ≡ start_of (form g) (geo g) n + k
      → take (start + 9 - start) (drop start image) ≡ take 9 (drop k (sector (sectors_of g image) n))
  nine_at n k start on fits e =
      let nine : start + 9 - start ≡ 9 = omega arith in
      ap₂ (λ (L j : ℕ). take L (drop j image)) nine e ∙ part_cut im n k 9 on fits

  -- the name of slot i
  pub name_part : (n i start : ℕ) → n < g.sectors → i < slots_each → start ≡ start_of (form g) (geo g) n + slot_start i
      → take (start + 9 - start) (drop start image) ≡ name_of (slot_at (sectors_of g image) n i)
  name_part n i start on h e = nine_at n (slot_start i) start on (omega arith) e ∙ sym (name_front (sectors_of g image) n i)
