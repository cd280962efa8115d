-- The order in which a blank disc's chain passes the sectors, by position: what loops over them go by.
-- Assumes nothing.
use Rattle.std.specs.Prelude.{◌≡◌, refl, length}
use Rattle.std.proofs.Math.Path.{sym, ap}
use Rattle.std.proofs.Common.{◌∙◌, mul-suc, div-lt_iff_lt-mul, length-append, get_or-append-add}
use Prim.Native.Nat.{ℕ, zero, suc, ◌+◌, ◌*◌, ◌/◌, ◌%◌, ◌<◌}
use native.Mathlib.Omega.{arith}
use Rattle.std.proofs.Math.Nat.{div-add-mod, mod-lt, mul_comm}
use mathlib.Core.List.{List, [], ◌∷◌, ◌++◌, map}
use Rattle.std.proofs.Math.ListN.{get_or, get_or-append}
use Rattle.std.proofs.lemmas.List.{length-map}
use Rattle.lists.specs.Lists.{range, joined}
use Rattle.format.specs.Geometry.{Geometry, sectors, sector_number}
use Rattle.format.specs.Effects.{passing}

-- lists of the same length one after the other
joined_at : {A : Type 0} (f : ℕ → List A) (p : ℕ) → ((t : ℕ) → length (f t) ≡ p) → (a k i j : ℕ) (z : A) → i < k → j < p
    → get_or (joined (map f (range a k))) (p * i + j) z ≡ get_or (f (a + i)) j z
joined_at f p long a zero i j z hi hj = absurd (omega arith)
joined_at f p long a (suc k) zero j z hi hj =
    let e : p * 0 + j ≡ j = omega arith in
    let o : a ≡ a + 0 = omega arith in
    ap (λ (n : ℕ). get_or (f a ++ joined (map f (range (suc a) k))) n z) e
    ∙ get_or-append (f a) (joined (map f (range (suc a) k))) z j (omega (arith, long a))
    ∙ ap (λ (t : ℕ). get_or (f t) j z) o
joined_at f p long a (suc k) (suc i) j z hi hj =
    let rest = joined (map f (range (suc a) k)) in
    let e : p * suc i + j ≡ length (f a) + (p * i + j) = omega (arith, mul-suc p i, long a) in
    let o : suc a + i ≡ a + suc i = omega arith in
    ap (λ (n : ℕ). get_or (f a ++ rest) n z) e
    ∙ get_or-append-add (f a) rest (p * i + j) z
    ∙ joined_at f p long (suc a) k i j z (omega arith) hj
    ∙ ap (λ (t : ℕ). get_or (f t) j z) o

joined_long : {A : Type 0} (f : ℕ → List A) (p : ℕ) → ((t : ℕ) → length (f t) ≡ p) → (a k : ℕ) → length (joined (map f (range a k))) ≡ p * k
joined_long f p long a zero = omega arith
joined_long f p long a (suc k) = length-append (f a) (joined (map f (range (suc a) k))) ∙ omega (arith, long a, joined_long f p long (suc a) k, mul-suc p k)

map_at : {A B : Type 0} (f : A → B) (xs : List A) (n : ℕ) (d : A) (e : B) → n < length xs → get_or (map f xs) n e ≡ f (get_or xs n d)
map_at f [] n d e h = absurd (omega arith)
map_at f (x ∷ xs) zero d e h = refl
map_at f (x ∷ xs) (suc n) d e h = map_at f xs n d e (omega arith)

module _ (G : Geometry) (some_sector : 0 < G.per_track) (long : length G.order ≡ G.per_track) where
  each : (t : ℕ) → length (map (sector_number G t) G.order) ≡ G.per_track
  each t = length-map G.order (sector_number G t) ∙ long

  pub passing_at : (k : ℕ) → k < sectors G → get_or (passing G) k 0 ≡ sector_number G (k / G.per_track) (get_or G.order (k % G.per_track) 0)
  unfolding passing
  passing_at k h =
      let p : ℕ = G.per_track in
      let split : k ≡ p * (k / p) + k % p = sym (div-add-mod k p) in
      let t : k / p < G.tracks = (div-lt_iff_lt-mul some_sector).1 (omega (arith, mul_comm G.per_track G.tracks)) in
      let o : 0 + k / p ≡ k / p = omega arith in
      ap (λ (n : ℕ). get_or (passing G) n 0) split
      ∙ joined_at (λ (t : ℕ). map (sector_number G t) G.order) p each 0 G.tracks (k / p) (k % p) 0 t (mod-lt k some_sector)
      ∙ ap (λ (t : ℕ). get_or (map (sector_number G t) G.order) (k % p) 0) o
      ∙ map_at (sector_number G (k / p)) G.order (k % p) 0 0 (omega (arith, mod-lt k some_sector))

  pub passing_long : length (passing G) ≡ sectors G
  unfolding passing
  passing_long = joined_long (λ (t : ℕ). map (sector_number G t) G.order) G.per_track each 0 G.tracks
