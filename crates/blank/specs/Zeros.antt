-- Zeros: the sectors of an image of zeros, and links written into them.
-- Assumes nothing.
use Rattle.std.specs.Prelude.{◌≡◌, refl, ℕ, zero, suc, ◌+◌, ◌*◌, ◌≤◌, ◌<◌, List, [], ◌∷◌, ◌++◌, length, set, take, drop, replicate}
use Rattle.std.proofs.Common.{sym, ap, ap₂, ◌∙◌, arith, length-set, take_at, drop_at, ext_get_or}
use Rattle.std.proofs.Math.Decide.{ℕ_discrete}
use Rattle.std.proofs.lemmas.List.{replicate-append-replicate, get_or-replicate, length-replicate}
use Rattle.std.proofs.lemmas.List.Edits.{sets, sets-eq}
use Rattle.format.specs.Geometry.{Format, Geometry, sectors, place_of, Disc, sector, chunks, reordered, cut}
use Rattle.format.specs.Arrangements.{Arranged}
use Rattle.format.proofs.Arrangements.{reordered_long, reordered_at}
use Rattle.format.proofs.GeometryLaws.{place_below, sector_other, sector_same}
use Rattle.format.specs.Layout.{link_offset}
use Rattle.format.specs.Effects.{body}
use Rattle.blank.specs.Meaning.{Bare}

chunks_zeros : (n : ℕ) → chunks n (replicate (256 * n) 0) ≡ replicate n (replicate 256 0)
unfolding chunks
chunks_zeros zero = refl
chunks_zeros (suc n) =
    let more : 256 * suc n ≡ 256 + 256 * n = omega arith in
    let zeros : ℕ → List ℕ = λ k. replicate k 0 in
    let split : zeros (256 * suc n) ≡ zeros 256 ++ zeros (256 * n) = ap zeros more ∙ sym (replicate-append-replicate 256 (256 * n) 0) in
    ap₂ (λ (a b : List ℕ). a ∷ chunks n b)
    (ap (take 256) split ∙ take_at (zeros 256) (zeros (256 * n)) 256 refl)
    (ap (drop 256) split ∙ drop_at (zeros 256) (zeros (256 * n)) 256 refl)
    ∙ ap (λ (d : Disc). replicate 256 0 ∷ d) (chunks_zeros n)

-- the same sectors in any order
reordered_same : (f : ℕ → ℕ) (N : ℕ) (s : List ℕ) → ((n : ℕ) → n < N → f n < N) → reordered f N (replicate N s) ≡ replicate N s
reordered_same f N s below = ext_get_or [] (reordered f N (replicate N s)) (replicate N s) (reordered_long f N (replicate N s) ∙ sym (length-replicate N s)) same
  where
    same : (n : ℕ) → n < length (reordered f N (replicate N s)) → sector (reordered f N (replicate N s)) n ≡ sector (replicate N s) n
    same n h =
        let on : n < N = omega (arith, reordered_long f N (replicate N s)) in
        reordered_at f N (replicate N s) n on ∙ get_or-replicate N (f n) s [] (below n on) ∙ sym (get_or-replicate N n s [] on)

pub cut_zeros : (F : Format) (G : Geometry) → Arranged F G → (n : ℕ) → n ≡ 256 * sectors G → cut F G (replicate n 0) ≡ replicate (sectors G) (replicate 256 0)
unfolding cut
cut_zeros F G a n e =
    ap (reordered (place_of F G) (sectors G)) (ap (λ (k : ℕ). chunks (sectors G) (replicate k 0)) e ∙ chunks_zeros (sectors G))
    ∙ reordered_same (place_of F G) (sectors G) (replicate 256 0) (place_below F G a)

-- ---- links written into sectors of zeros

-- the link of a sector, stored in it, and what stands after it
pub link_stored : (s : List ℕ) (a b : ℕ) → 2 ≤ length s → body s ≡ replicate 254 0 → sets s link_offset (a ∷ b ∷ []) ≡ a ∷ b ∷ replicate 254 0
link_stored s a b h e = sets-eq (a ∷ b ∷ []) s 0 (omega arith) ∙ ap (λ (xs : List ℕ). a ∷ b ∷ xs) e

-- zeros but for 0/1
pub bare_zeros : (n : ℕ) (s : List ℕ) → Bare (set (replicate n (replicate 256 0)) 0 s)
bare_zeros n s =
    let zs : Disc = replicate n (replicate 256 0) in
    let long : length (set zs 0 s) ≡ n = length-set zs 0 s ∙ length-replicate n (replicate 256 0) in
    record { zeros = λ m low high. ap body (sector_other zs 0 m s (λ e. omega arith) ∙ get_or-replicate n m (replicate 256 0) [] (omega (arith, long))) }

-- one more link
pub bare_set : (d : Disc) (n a b : ℕ) → Bare d → Bare (set d n (a ∷ b ∷ replicate 254 0))
bare_set d n a b z =
    let s : List ℕ = a ∷ b ∷ replicate 254 0 in
    let long : length (set d n s) ≡ length d = length-set d n s in
    record {
      zeros = λ m low high. elim (ℕ_discrete m n) [
        | yes e ↦ ap (λ (k : ℕ). body (sector (set d n s) k)) e ∙ ap body (sector_same d n s (omega (arith, e, long)))
        | no e ↦ ap body (sector_other d n m s e) ∙ z.zeros m low (omega (arith, long))
      ];
    }
