-- Laws of Geometry: the cases of its definitions, sector numbers there and back, and what loads and stores in an image are in its sectors.
-- They hold for any number of sectors a track.
-- Assumes nothing.
use Rattle.std.proofs.Math.Path.{◌≡◌, refl, sym, ap, ap₂}
use Rattle.std.proofs.Common.{◌∙◌, subst, lt_of_not-le, mod-lt, div-lt_iff_lt-mul, mul_comm, length-set, length-append, length-drop, take-append-drop, get_or-set_other, get_or-set_same, drop-set-lt, get_or-drop, get_or-take, take_at, drop_at, drop-drop, length-take-le, set-set, eq-eqb, ne_eqb, lt-ltb, le-leb, ltb-true, leb-true, eqb-true}
use Rattle.std.specs.Prelude.{◌≢◌, ℕ, zero, suc, ◌+◌, ◌*◌, ◌/◌, ◌%◌, ◌-◌, ◌≤◌, ◌<◌, Bool, not, ◌&&◌, List, [], ◌∷◌, ◌++◌, map, length, get_or, set, take, drop, eqb, leb, ltb}
use native.Mathlib.Omega.{arith}
use Rattle.std.proofs.Math.Decide.{dec_le, ℕ_discrete}
use Rattle.std.proofs.Math.Nat.{mul-suc, mul-le-mul_left, mul-add-div, div-eq_of_lt, div-add-mod, div-zero}
use Rattle.std.proofs.Math.Bool.{true, false, cond}
use Rattle.std.proofs.lemmas.List.Edits.{sets}
use Rattle.std.proofs.Math.Seq.{take-set-lt}
use Rattle.std.proofs.lemmas.List.{take-set-le, drop-set-add, set-get_or}
use Rattle.std.proofs.lemmas.Bool.{lt-leb, not-false}
use Rattle.lists.specs.Lists.{joined, times, range, index_of}
use Rattle.lists.specs.ListLaws.{and_true, All, done, ◌also◌, all_get_d, all_set, times_here, times_past}
use Rattle.lists.specs.Indices.{index_below, at_index, element_times, index_at, index_range}
use Rattle.format.specs.Refusals.{refused, ok, SIZE, refuse◌if◌, ◌>>◌}
use Rattle.format.proofs.RefusalLaws.{if_ok, ok_is}
use Rattle.format.specs.Geometry.{Format, arranged, unknown, Geometry, tracked, geometry, sectors, sector_number, start_of, on_disc, track_of, sector_of, place_of, sector_at, stop, go, off, pointed, Disc, chunks, reordered, cut, flat, sector, Write, written}
use Rattle.format.specs.Arrangements.{Arranged}
use Rattle.format.proofs.Arrangements.{arrangement_long, arranged_once, reordered_long, reordered_at, reordered_each, reordered_back, reordered_set}
use Rattle.format.specs.GeometryLaws.{ImageOf, OnDisc, Full}

-- ---- the geometry of a length

pub geometry_ok : (F : Format) (n : ℕ) (G : Geometry) → geometry F n ≡ ok G → ImageOf F G n
unfolding geometry
geometry_ok F n G e =
    let track : ℕ = 256 * F.per_track in
    let h = if_ok _ (not (eqb (n % track) 0 && leb 1 (n / track) && leb (n / track) 80)) _ e in
    let k = and_true (eqb (n % track) 0 && leb 1 (n / track)) (leb (n / track) 80) (not-false _ h.0) in
    let j = and_true (eqb (n % track) 0) (leb 1 (n / track)) k.0 in
    let size : n ≡ 256 * (F.per_track * (n / track)) = omega (arith, div-add-mod n track, eqb-true (n % track) 0 j.0) in
    subst (λ (G : Geometry). ImageOf F G n) (ok_is h.1)
    (record { per_track = refl; in_order = refl; some_track = leb-true 1 (n / track) j.1; few_tracks = leb-true _ _ k.1; long = size })

pub geometry_done : (F : Format) (n : ℕ) → n % (256 * F.per_track) ≡ 0 → 1 ≤ n / (256 * F.per_track) → n / (256 * F.per_track) ≤ 80
    → geometry F n ≡ ok (tracked F (n / (256 * F.per_track)))
unfolding geometry refuse◌if◌ ◌>>◌
geometry_done F n a b c = simp (eq-eqb _ _ a, le-leb 1 _ b, le-leb _ 80 c)

pub geometry_rest : (F : Format) (n : ℕ) → n % (256 * F.per_track) ≢ 0 → geometry F n ≡ refused SIZE
unfolding geometry refuse◌if◌ ◌>>◌
geometry_rest F n a = simp (ne_eqb _ _ a)

pub geometry_none : (F : Format) (n : ℕ) → n % (256 * F.per_track) ≡ 0 → n / (256 * F.per_track) < 1 → geometry F n ≡ refused SIZE
unfolding geometry refuse◌if◌ ◌>>◌
geometry_none F n a b = simp (eq-eqb _ _ a, lt-leb 1 _ b)

pub geometry_many : (F : Format) (n : ℕ) → n % (256 * F.per_track) ≡ 0 → 1 ≤ n / (256 * F.per_track) → 80 < n / (256 * F.per_track)
    → geometry F n ≡ refused SIZE
unfolding geometry refuse◌if◌ ◌>>◌
geometry_many F n a b c = simp (eq-eqb _ _ a, le-leb 1 _ b, lt-leb _ 80 c)

-- a length is right for every arrangement or for none
pub same_length : (F : Format) (A : List ℕ) (n : ℕ) → geometry (arranged A F) n ≡ geometry F n
unfolding geometry
same_length F A n = refl

-- no length is right for a kind of disc that there isn't
pub no_disc : (n : ℕ) → geometry unknown n ≡ refused SIZE
unfolding unknown
no_disc n = elim (ℕ_discrete (n % 0) 0) [ yes e ↦ geometry_none unknown n e (omega (arith, div-zero n)) | no e ↦ geometry_rest unknown n e ]

-- ---- on the disc, and what a track and a sector byte lead to

module _ (G : Geometry) (t s : ℕ) where
  pub is_on_disc : t < G.tracks → 1 ≤ s → s ≤ G.per_track → on_disc G t s ≡ true
  is_on_disc a b c = simp (lt-ltb t _ a, le-leb 1 s b, le-leb s _ c)

  pub pointed_stop : s ≡ 0 → pointed G t s ≡ stop
  unfolding pointed
  pointed_stop h = simp (eq-eqb s 0 h)

  pub pointed_go : 0 < s → s ≤ G.per_track → t < G.tracks → pointed G t s ≡ go (sector_number G t s)
  unfolding pointed
  pointed_go h k l = simp (ne_eqb s 0 (λ e. omega arith), is_on_disc l h k)

-- what `on_disc` tests
pub on_disc_is : (G : Geometry) (t s : ℕ) → on_disc G t s ≡ true → (t < G.tracks) × (1 ≤ s) × (s ≤ G.per_track)
on_disc_is G t s e =
    let h = and_true (ltb t G.tracks && leb 1 s) (leb s G.per_track) e in
    let k = and_true (ltb t G.tracks) (leb 1 s) h.0 in
    (ltb-true t _ k.0, leb-true 1 s k.1, leb-true s _ h.1)

-- ---- sector numbers

module _ (G : Geometry) (some_sector : 0 < G.per_track) where
  -- t/s on the disc is the number of a sector
  pub number_below : (t s : ℕ) → t < G.tracks → 1 ≤ s → s ≤ G.per_track → sector_number G t s < sectors G
  number_below t s ht h1 hs = omega (arith, mul-le-mul_left G.per_track ht, mul-suc G.per_track t)

  -- there and back
  pub number_back : (n : ℕ) → sector_number G (track_of G n) (sector_of G n) ≡ n
  number_back n = omega (arith, div-add-mod n G.per_track)

  pub track_back : (t s : ℕ) → 1 ≤ s → s ≤ G.per_track → track_of G (sector_number G t s) ≡ t
  track_back t s h1 hs =
      ap (λ (n : ℕ). n / G.per_track) plus ∙ mul-add-div some_sector t (s - 1) ∙ ap (λ (q : ℕ). t + q) (div-eq_of_lt low) ∙ omega arith
    where
      plus : sector_number G t s ≡ G.per_track * t + (s - 1)
      plus = omega arith

      low : s - 1 < G.per_track
      low = omega arith

  pub sector_back : (t s : ℕ) → 1 ≤ s → s ≤ G.per_track → sector_of G (sector_number G t s) ≡ s
  sector_back t s h1 hs =
      let e : G.per_track * track_of G (sector_number G t s) ≡ G.per_track * t = ap (λ (q : ℕ). G.per_track * q) (track_back t s h1 hs) in
      omega (arith, div-add-mod (sector_number G t s) G.per_track)

  pub sector_range : (n : ℕ) → sector_of G n ≤ G.per_track
  sector_range n = omega (arith, mod-lt n some_sector)

  pub track_range : (n : ℕ) → n < sectors G → track_of G n < G.tracks
  track_range n h = (div-lt_iff_lt-mul some_sector).1 (omega (arith, mul_comm G.per_track G.tracks))

  -- a sector's own track and sector lead to it
  pub pointed_back : (n : ℕ) → n < sectors G → pointed G (track_of G n) (sector_of G n) ≡ go n
  pointed_back n h = pointed_go G _ _ (omega arith) (sector_range n) (track_range n h) ∙ ap go (number_back n)

  -- and no others do
  pub pointed_only : (t s n : ℕ) → pointed G t s ≡ go n → (t ≡ track_of G n) × (s ≡ sector_of G n)
  unfolding pointed
  pointed_only t s n e = by (eqb s 0) (on_disc G t s) refl e
    where
      by : (a b : Bool) → on_disc G t s ≡ b → cond a stop (cond b (go (sector_number G t s)) off) ≡ go n → (t ≡ track_of G n) × (s ≡ sector_of G n)
      by true b o e = let z : ◌≡◌ {A = ℕ} 0 1 = cc in absurd (omega arith)
      by false false o e = let z : ◌≡◌ {A = ℕ} 0 1 = cc in absurd (omega arith)
      by false true o e =
          let n-is : sector_number G t s ≡ n = cc in
          let h = on_disc_is G t s o in
          (sym (track_back t s h.1 h.2) ∙ ap (track_of G) n-is, sym (sector_back t s h.1 h.2) ∙ ap (sector_of G) n-is)

-- what leads nowhere has the sector byte zero
pub pointed_none : (G : Geometry) (t s : ℕ) → pointed G t s ≡ stop → s ≡ 0
unfolding pointed
pointed_none G t s e = by (eqb s 0) (on_disc G t s) refl e
  where
    by : (a b : Bool) → eqb s 0 ≡ a → cond a stop (cond b (go (sector_number G t s)) off) ≡ stop → s ≡ 0
    by true b q e = eqb-true s 0 q
    by false true q e = let z : ◌≡◌ {A = ℕ} 0 1 = cc in absurd (omega arith)
    by false false q e = let z : ◌≡◌ {A = ℕ} 0 1 = cc in absurd (omega arith)

-- ---- sectors and their places in an image

some_on_track : (G : Geometry) (n : ℕ) → n < sectors G → 0 < G.per_track
some_on_track G n h = elim (ℕ_discrete G.per_track 0) [
  | yes e ↦ absurd (omega (arith, ap (λ (k : ℕ). k * G.tracks) e))
  | no e ↦ omega arith
]

-- where the sectors of a track stand in the order of their numbers
pub plain_place : (F : Format) (G : Geometry) → F.arrangement ≡ range 1 G.per_track → (n : ℕ) → n < sectors G → place_of F G n ≡ n
unfolding place_of
plain_place F G e n h =
    let some = some_on_track G n h in
    ap (λ (A : List ℕ). G.per_track * track_of G n + index_of (sector_of G n) A) e
    ∙ omega (arith, index_range 1 G.per_track (sector_of G n) (omega arith) (omega (arith, sector_range G some n)), div-add-mod n G.per_track)

module _ (F : Format) (G : Geometry) (a : Arranged F G) where
  module _ (n : ℕ) (on : n < sectors G) where
    some : 0 < G.per_track
    some = some_on_track G n on

    stands : 0 < times (sector_of G n) F.arrangement
    stands = omega (arith, a.inside (sector_of G n) (omega arith) (omega (arith, sector_range G some n)))

    on_track : index_of (sector_of G n) F.arrangement < G.per_track
    on_track = omega (arith, index_below (sector_of G n) F.arrangement stands, arrangement_long F G a)

    pub place_below : place_of F G n < sectors G
    unfolding place_of
    place_below = omega (arith, on_track, mul-le-mul_left G.per_track (track_range G some n on), mul-suc G.per_track (track_of G n))

    place_track : place_of F G n / G.per_track ≡ track_of G n
    unfolding place_of
    place_track =
        mul-add-div some (track_of G n) (index_of (sector_of G n) F.arrangement) ∙ ap (λ (q : ℕ). track_of G n + q) (div-eq_of_lt on_track) ∙ omega arith

    place_rest : place_of F G n % G.per_track ≡ index_of (sector_of G n) F.arrangement
    unfolding place_of
    place_rest =
        let e : G.per_track * (place_of F G n / G.per_track) ≡ G.per_track * track_of G n = ap (λ (q : ℕ). G.per_track * q) place_track in
        omega (arith, div-add-mod (place_of F G n) G.per_track)

    -- from a sector to its place, and back
    pub place_back : sector_at F G (place_of F G n) ≡ n
    unfolding sector_at
    place_back =
        ap₂ (λ (t i : ℕ). sector_number G t (get_or F.arrangement i 0)) place_track place_rest
        ∙ ap (sector_number G (track_of G n)) (at_index (sector_of G n) F.arrangement stands) ∙ number_back G some n

  module _ (p : ℕ) (on : p < sectors G) where
    some' : 0 < G.per_track
    some' = some_on_track G p on

    on_track' : p % G.per_track < length F.arrangement
    on_track' = omega (arith, mod-lt p some', arrangement_long F G a)

    stands' : 0 < times (get_or F.arrangement (p % G.per_track) 0) F.arrangement
    stands' = element_times F.arrangement (p % G.per_track) on_track'

    at : ℕ
    at = get_or F.arrangement (p % G.per_track) 0

    at_least : 1 ≤ at
    unfolding at
    at_least = elim (ℕ_discrete at 0) [ yes e ↦ absurd (omega (arith, stands', ap (λ (s : ℕ). times s F.arrangement) e, a.zeroth)) | no e ↦ omega arith ]

    at_most : at ≤ G.per_track
    unfolding at
    at_most = elim (dec_le at G.per_track) [ yes l ↦ l | no l ↦ absurd (omega (arith, stands', a.outside at (lt_of_not-le l))) ]

    pub sector_at_below : sector_at F G p < sectors G
    unfolding sector_at at
    sector_at_below = number_below G some' (p / G.per_track) at (track_range G some' p on) at_least at_most

    -- from a place to its sector, and back
    pub sector_at_back : place_of F G (sector_at F G p) ≡ p
    unfolding place_of sector_at at
    sector_at_back =
        ap₂ (λ (t s : ℕ). G.per_track * t + index_of s F.arrangement)
        (track_back G some' (p / G.per_track) at at_least at_most) (sector_back G some' (p / G.per_track) at at_least at_most)
        ∙ ap (λ (i : ℕ). G.per_track * (p / G.per_track) + i) (index_at F.arrangement (p % G.per_track) (arranged_once F G a) on_track')
        ∙ div-add-mod p G.per_track

  -- no two sectors at one place
  pub place_alone : (m n : ℕ) → m < sectors G → n < sectors G → place_of F G m ≡ place_of F G n → m ≡ n
  place_alone m n h k e = sym (place_back m h) ∙ ap (sector_at F G) e ∙ place_back n k

pub pointed_on : (G : Geometry) (t s : ℕ) → OnDisc G (pointed G t s)
unfolding pointed OnDisc
pointed_on G t s n e = case (eqb s 0) (ltb t G.tracks) (leb 1 s) (leb s G.per_track) refl refl refl e
  where
    case : (a b c f : Bool) → ltb t G.tracks ≡ b → leb 1 s ≡ c → leb s G.per_track ≡ f
        → cond a stop (cond (b && c && f) (go (sector_number G t s)) off) ≡ go n → n < sectors G
    case true b c f p q r e = let z : ◌≡◌ {A = ℕ} 0 1 = cc in absurd (omega arith)
    case false true true true p q r e =
        let w : sector_number G t s ≡ n = cc in
        subst (λ (k : ℕ). k < sectors G) w
        (number_below G (omega (arith, leb-true 1 s q, leb-true s _ r)) t s (ltb-true _ _ p) (leb-true 1 s q) (leb-true s _ r))
    case false true true false p q r e = let z : ◌≡◌ {A = ℕ} 0 1 = cc in absurd (omega arith)
    case false true false f p q r e = let z : ◌≡◌ {A = ℕ} 0 1 = cc in absurd (omega arith)
    case false false c f p q r e = let z : ◌≡◌ {A = ℕ} 0 1 = cc in absurd (omega arith)

-- ---- a sector that is written, and the others

pub sector_other : (d : Disc) (n m : ℕ) (s : List ℕ) → m ≢ n → sector (set d n s) m ≡ sector d m
sector_other d n m s h = get_or-set_other d n m s [] h

pub sector_same : (d : Disc) (n : ℕ) (s : List ℕ) → n < length d → sector (set d n s) n ≡ s
sector_same d n s h = get_or-set_same d n s [] h

-- a second store in the sector that was written last
pub sector_again : (d : Disc) (n k : ℕ) (a vs : List ℕ) → n < length d → set (set d n a) n (sets (sector (set d n a) n) k vs) ≡ set d n (sets a k vs)
sector_again d n k a vs h = ap (λ (s : List ℕ). set (set d n a) n (sets s k vs)) (sector_same d n a h) ∙ set-set d n a (sets a k vs)

-- a sector that no write names stays
pub written_other : (ws : List Write) (d : Disc) (n : ℕ) → times n (map (λ w. w.at) ws) ≡ 0 → sector (written ws d) n ≡ sector d n
written_other [] d n h = refl
written_other (w ∷ ws) d n h =
    let apart : n ≢ w.at = λ e. omega (arith, times_here n w.at (map (λ w. w.at) ws) e) in
    written_other ws (set d w.at w.bytes) n (omega (arith, times_past n w.at (map (λ w. w.at) ws) apart)) ∙ sector_other d w.at n w.bytes apart

-- ---- discs of as many sectors as the geometry has, of 256 bytes each

pub sector_full : {G : Geometry} {d : Disc} → Full G d → (n : ℕ) → n < sectors G → length (sector d n) ≡ 256
sector_full f n h = all_get_d n [] f.each (omega (arith, f.many))

pub full_set : {G : Geometry} {d : Disc} → Full G d → (n : ℕ) (bs : List ℕ) → length bs ≡ 256 → Full G (set d n bs)
full_set {d = d} f n bs h = record { many = length-set d n bs ∙ f.many; each = all_set n bs f.each h }

-- ---- cut and joined again

chunks_many : (N : ℕ) (image : List ℕ) → length (chunks N image) ≡ N
unfolding chunks
chunks_many zero image = refl
chunks_many (suc N) image = ap suc (chunks_many N (drop 256 image))

chunks_each : (N : ℕ) (image : List ℕ) → length image ≡ 256 * N → All (λ s. length s ≡ 256) (chunks N image)
unfolding chunks
chunks_each zero image h = done
chunks_each (suc N) image h = length-take-le 256 image (omega arith) also chunks_each N (drop 256 image) (length-drop 256 image ∙ omega arith)

chunks_joined : {d : Disc} → All (λ s. length s ≡ 256) d → chunks (length d) (joined d) ≡ d
unfolding chunks
chunks_joined done = refl
chunks_joined (◌also◌ {x = s} {xs = d} h hs) =
    ap₂ (λ (a b : List ℕ). a ∷ chunks (length d) b) (take_at s (joined d) 256 h) (drop_at s (joined d) 256 h)
    ∙ ap (λ (r : Disc). s ∷ r) (chunks_joined hs)

joined_chunks : (N : ℕ) (image : List ℕ) → length image ≡ 256 * N → joined (chunks N image) ≡ image
unfolding chunks
joined_chunks zero [] h = refl
joined_chunks zero (x ∷ xs) h = absurd (omega arith)
joined_chunks (suc N) image h =
    ap (λ (t : List ℕ). take 256 image ++ t) (joined_chunks N (drop 256 image) (length-drop 256 image ∙ omega arith)) ∙ take-append-drop 256 image

joined_long : {d : Disc} → All (λ s. length s ≡ 256) d → length (joined d) ≡ 256 * length d
joined_long done = refl
joined_long (◌also◌ {x = s} {xs = d} h hs) = length-append s (joined d) ∙ omega (arith, joined_long hs)

chunks_at : (N : ℕ) (image : List ℕ) (n : ℕ) → n < N → get_or (chunks N image) n [] ≡ take 256 (drop (256 * n) image)
unfolding chunks
chunks_at zero image n h = absurd (omega arith)
chunks_at (suc N) image zero h = refl
chunks_at (suc N) image (suc n) h =
    let e : 256 + 256 * n ≡ 256 * suc n = omega arith in
    chunks_at N (drop 256 image) n (omega arith) ∙ ap (take 256) (drop-drop (256 * n) 256 image ∙ ap (λ (k : ℕ). drop k image) e)

pub length_cut : (F : Format) (G : Geometry) (image : List ℕ) → length (cut F G image) ≡ sectors G
unfolding cut
length_cut F G image = reordered_long (place_of F G) (sectors G) (chunks (sectors G) image)

module _ (F : Format) (G : Geometry) (a : Arranged F G) where
  -- a sector starts at 256 times its place
  pub sector_cut : (image : List ℕ) (n : ℕ) → n < sectors G → sector (cut F G image) n ≡ take 256 (drop (start_of F G n) image)
  unfolding cut
  sector_cut image n h =
      reordered_at (place_of F G) (sectors G) (chunks (sectors G) image) n h ∙ chunks_at (sectors G) image (place_of F G n) (place_below F G a n h)

  pub cut_full : (image : List ℕ) → length image ≡ 256 * sectors G → Full G (cut F G image)
  unfolding cut
  cut_full image h = record {
    many = length_cut F G image;
    each = reordered_each (place_of F G) (sectors G) (place_below F G a)
        (chunks (sectors G) image) (chunks_many (sectors G) image) (chunks_each (sectors G) image h);
  }

  -- the sectors by their places
  shelved : Disc → Disc
  shelved d = reordered (sector_at F G) (sectors G) d

  shelved_many : (d : Disc) → length (shelved d) ≡ sectors G
  unfolding shelved
  shelved_many d = reordered_long (sector_at F G) (sectors G) d

  shelved_each : (d : Disc) → Full G d → All (λ s. length s ≡ 256) (shelved d)
  unfolding shelved
  shelved_each d f = reordered_each (sector_at F G) (sectors G) (sector_at_below F G a) d f.many f.each

  pub cut_flat : (d : Disc) → Full G d → cut F G (flat F G d) ≡ d
  unfolding cut flat shelved
  cut_flat d f =
      ap (reordered (place_of F G) (sectors G)) (ap (λ (n : ℕ). chunks n (joined (shelved d))) (sym (shelved_many d)) ∙ chunks_joined (shelved_each d f))
      ∙ reordered_back (place_of F G) (sectors G) (place_below F G a) (sector_at F G) d f.many (place_back F G a)

  pub flat_cut : (image : List ℕ) → length image ≡ 256 * sectors G → flat F G (cut F G image) ≡ image
  unfolding cut flat
  flat_cut image h =
      ap joined (reordered_back (sector_at F G) (sectors G) (sector_at_below F G a) (place_of F G)
      (chunks (sectors G) image) (chunks_many (sectors G) image) (sector_at_back F G a))
      ∙ joined_chunks (sectors G) image h

  pub flat_long : (d : Disc) → Full G d → length (flat F G d) ≡ 256 * sectors G
  unfolding flat shelved
  flat_long d f = joined_long (shelved_each d f) ∙ ap (λ (n : ℕ). 256 * n) (shelved_many d)

  -- ---- loads and stores in an image

  pub byte_cut : (image : List ℕ) (n k : ℕ) → n < sectors G → k < 256 → get_or (sector (cut F G image) n) k 0 ≡ get_or image (start_of F G n + k) 0
  byte_cut image n k hn hk =
      ap (λ (s : List ℕ). get_or s k 0) (sector_cut image n hn) ∙ get_or-take 256 (drop (start_of F G n) image) k 0 hk ∙ get_or-drop (start_of F G n) image k 0

  -- the sector of any byte of an image
  pub byte_at : (image : List ℕ) (i : ℕ) → i < 256 * sectors G → get_or (sector (cut F G image) (sector_at F G (i / 256))) (i % 256) 0 ≡ get_or image i 0
  byte_at image i h =
      let on : i / 256 < sectors G = omega arith in
      let here : start_of F G (sector_at F G (i / 256)) + i % 256 ≡ i = ap (λ (p : ℕ). 256 * p + i % 256) (sector_at_back F G a (i / 256) on) ∙ omega arith in
      byte_cut image (sector_at F G (i / 256)) (i % 256) (sector_at_below F G a (i / 256) on) (omega arith) ∙ ap (λ (j : ℕ). get_or image j 0) here

chunks_set : (N : ℕ) (image : List ℕ) (n k v : ℕ) → n < N → k < 256
    → chunks N (set image (256 * n + k) v) ≡ set (chunks N image) n (set (get_or (chunks N image) n []) k v)
unfolding chunks
chunks_set zero image n k v hn hk = absurd (omega arith)
chunks_set (suc N) image zero k v hn hk =
    let e : 256 * 0 + k ≡ k = omega arith in
    ap (λ (j : ℕ). take 256 (set image j v) ∷ chunks N (drop 256 (set image j v))) e
    ∙ ap₂ (λ (a b : List ℕ). a ∷ chunks N b) (take-set-lt 256 image k v hk) (drop-set-lt 256 image k v hk)
chunks_set (suc N) image (suc n) k v hn hk =
    let e : 256 * suc n + k ≡ 256 + (256 * n + k) = omega arith in
    ap (λ (j : ℕ). take 256 (set image j v) ∷ chunks N (drop 256 (set image j v))) e
    ∙ ap₂ (λ (a b : List ℕ). a ∷ chunks N b) (take-set-le 256 image (256 + (256 * n + k)) v (omega arith)) (drop-set-add 256 image (256 * n + k) v)
    ∙ ap (λ (t : Disc). take 256 image ∷ t) (chunks_set N (drop 256 image) n k v (omega arith) hk)

chunks_sets : (N : ℕ) (image : List ℕ) (n k : ℕ) (vs : List ℕ) → n < N → k + length vs ≤ 256
    → chunks N (sets image (256 * n + k) vs) ≡ set (chunks N image) n (sets (sector (chunks N image) n) k vs)
chunks_sets N image n k [] hn hk = sym (set-get_or (chunks N image) n [])
chunks_sets N image n k (v ∷ vs) hn hk =
    let image' : List ℕ = set image (256 * n + k) v in
    let d : Disc = chunks N image in
    let e : chunks N image' ≡ set d n (set (sector d n) k v) = chunks_set N image n k v hn (omega arith) in
    let o : suc (256 * n + k) ≡ 256 * n + suc k = omega arith in
    ap (λ (j : ℕ). chunks N (sets image' j vs)) o
    ∙ chunks_sets N image' n (suc k) vs hn (omega arith)
    ∙ ap (λ (x : Disc). set x n (sets (sector x n) (suc k) vs)) e
    ∙ sector_again d n (suc k) (set (sector d n) k v) vs (omega (arith, chunks_many N image))

-- bytes stored from offset k of sector n on
pub sets_cut : (F : Format) (G : Geometry) → Arranged F G → (image : List ℕ) (n k : ℕ) (vs : List ℕ) → n < sectors G → k + length vs ≤ 256
    → cut F G (sets image (start_of F G n + k) vs) ≡ set (cut F G image) n (sets (sector (cut F G image) n) k vs)
unfolding cut
sets_cut F G a image n k vs hn hk =
    let N : ℕ = sectors G in
    let d : Disc = chunks N image in
    let p : ℕ = place_of F G n in
    ap (reordered (place_of F G) N) (chunks_sets N image p k vs (place_below F G a n hn) hk)
    ∙ reordered_set (place_of F G) N (place_below F G a) d n (sets (sector d p) k vs) (chunks_many N image) hn (λ m h e. place_alone F G a m n h hn e)
    ∙ ap (λ (s : List ℕ). set (cut F G image) n (sets s k vs)) (sym (reordered_at (place_of F G) N d n hn))
