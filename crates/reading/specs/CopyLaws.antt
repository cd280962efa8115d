-- Laws of copying: parts stored one after the other in a buffer, and the bytes of the module in a file.
-- Assumes nothing.
use Rattle.std.specs.Prelude.{◌≡◌, refl, ℕ, zero, suc, min, ◌+◌, ◌-◌, ◌≤◌, List, [], ◌∷◌, ◌++◌, length, take, drop}
use Rattle.std.proofs.Common.{sym, ap, ap₂, ◌∙◌, arith, length-drop, drop-drop, take_all}
use Rattle.std.proofs.Math.Nat.{suc-sub-suc}
use Rattle.std.proofs.Math.Option.{Option, none, some}
use Rattle.std.proofs.lemmas.List.Edits.{sets}
use Rattle.std.proofs.Math.Seq.{length-sets, slice}
use Rattle.lists.specs.ListLaws.{drop_take, take_part}
use Rattle.format.specs.Geometry.{sector}
use Rattle.format.specs.Modules.{Module, guessed, plain}
use Rattle.geometry.specs.Meaning.{sectors_of}
use Rattle.geometry.specs.declared.Geometry.{Geometry}
use Rattle.lists.specs.Stores.{sets_append}
use Rattle.reading.specs.Plain.{later_bytes, size_of}
use Rattle.reading.specs.Meaning.{bodies_of, file_bodies, bodies_after, File, Copied, bytes_in}
use Rattle.reading.specs.PartLaws.{take_min}
use Rattle.reading.specs.PlainLaws.{plain_guessed}
use Rattle.reading.specs.FileLaws.{file_first}

-- ---- copied parts

-- a part of at most m bytes of an image, from position a on, that ends at t at the latest
pub slice_front : (xs : List ℕ) (a t m size : ℕ) → a ≤ t → size ≡ min m (t - a) → take m (slice a t xs) ≡ slice a (a + size) xs
slice_front xs a t m size h e =
    let end : min (a + m) t ≡ a + size = omega arith in
    sym (drop_take a m (take t xs)) ∙ ap (drop a) (take_min (a + m) t xs ∙ ap (λ (k : ℕ). take k xs) end)

-- a front of xs ++ ys: a front of xs, and what is left to take of ys
take_over : (q : ℕ) (xs ys : List ℕ) → take q (xs ++ ys) ≡ take q xs ++ take (q - length (take q xs)) ys
take_over zero xs ys = refl
take_over (suc q) [] ys = let e : suc q ≡ suc q - 0 = omega arith in ap (λ (k : ℕ). take k ys) e
take_over (suc q) (x ∷ xs) ys =
    ap (λ (r : List ℕ). x ∷ r) (take_over q xs ys) ∙ ap (λ (k : ℕ). x ∷ take q xs ++ take k ys) (sym (suc-sub-suc q (length (take q xs))))

-- a copied part, and what is stored behind it
pub copied_on : {s : List ℕ} {k : ℕ} {buffer buffer' : List ℕ} {at end r : ℕ} → Copied s k buffer buffer' at end r → at ≤ end → (ys : List ℕ)
    → sets buffer' r (take (end - r) ys) ≡ sets buffer at (take (end - at) (drop k s ++ ys))
copied_on {s} {k} {buffer} {buffer'} {at} {end} {r} c h ys =
    let part : List ℕ = take (end - at) (drop k s) in
    let left : end - (at + length part) ≡ end - at - length part = omega arith in
    ap₂ (λ (x : List ℕ) (j : ℕ). sets x j (take (end - j) ys)) c.stored c.next
    ∙ sets_append buffer at part (take (end - (at + length part)) ys)
    ∙ ap (sets buffer at) (ap (λ (j : ℕ). part ++ take j ys) left ∙ sym (take_over (end - at) (drop k s) ys))

-- all of what stands from offset k on, where there is room for more
pub copied_whole : {s : List ℕ} {k : ℕ} {buffer buffer' : List ℕ} {at end r : ℕ} → k + 253 ≡ length s → at + 253 ≤ end
    → Copied s k buffer buffer' at (at + 253) r → Copied s k buffer buffer' at end r
copied_whole {s} {k} {buffer} {buffer'} {at} {end} {r} long room c =
    let all : (m : ℕ) → 253 ≤ m → take m (drop k s) ≡ drop k s = λ m h. take_all m (drop k s) (omega (arith, length-drop k s, long)) in
    let same : take (at + 253 - at) (drop k s) ≡ take (end - at) (drop k s) = all (at + 253 - at) (omega arith) ∙ sym (all (end - at) (omega arith)) in
    record {
      stored = c.stored ∙ ap (sets buffer at) same;
      next = c.next ∙ ap (λ (xs : List ℕ). at + length xs) same;
      inside = omega (arith, c.inside);
    }

pub copied_long : {s : List ℕ} {k : ℕ} {buffer buffer' : List ℕ} {at end r : ℕ} → Copied s k buffer buffer' at end r → length buffer' ≡ length buffer
copied_long {s} {k} {buffer} {buffer'} {at} {end} c = ap length c.stored ∙ length-sets buffer at (take (end - at) (drop k s))

-- ---- the bytes of the module in a file

pub file_bytes : {g : Geometry} {image : List ℕ} {first count : ℕ} → File g image first count
    → (size : ℕ) → size ≡ length (bytes_in (plain (file_bodies g image first count)))
    → take size (drop 11 (sector (sectors_of g image) first) ++ later_bytes (bodies_after g image first (count - 1)))
    ≡ bytes_in (plain (file_bodies g image first count))
unfolding guessed
file_bytes {g} {image} {first} {count} f size e = by (plain (file_bodies g image first count)) refl e
  where
    s : List ℕ
    s = sector (sectors_of g image) first

    bs : List (List ℕ)
    bs = bodies_after g image first (count - 1)

    by : (o : Option Module) → plain (file_bodies g image first count) ≡ o → size ≡ length (bytes_in o) → take size (drop 11 s ++ later_bytes bs) ≡ bytes_in o
    by none q e = ap (λ (k : ℕ). take k (drop 11 s ++ later_bytes bs)) e
    by (some m) q e =
        let held = sym (ap (λ (ns : List ℕ). plain (bodies_of (sectors_of g image) ns)) (file_first f)) ∙ q in
        let is : guessed (drop 2 s ∷ bs) ≡ m = plain_guessed (drop 2 s ∷ bs) m held in
        let bytes : take (size_of (drop 2 s)) (drop 11 s ++ later_bytes bs) ≡ m.bytes =
        ap (λ (xs : List ℕ). take (size_of (drop 2 s)) (xs ++ later_bytes bs)) (sym (drop-drop 9 2 s)) ∙ ap (λ (m : Module). m.bytes) is in
        let long : size ≡ length (take (size_of (drop 2 s)) (drop 11 s ++ later_bytes bs)) = e ∙ ap length (sym bytes) in
        ap (λ (k : ℕ). take k (drop 11 s ++ later_bytes bs)) long ∙ take_part (size_of (drop 2 s)) (drop 11 s ++ later_bytes bs) ∙ bytes
