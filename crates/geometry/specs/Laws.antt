-- Laws of Meaning: what is known of an image that was accepted, where its sectors start, and their bytes.
-- Assumes nothing.
use Rattle.std.proofs.Math.Path.{◌≡◌, refl, ap, ap₂}
use Rattle.std.proofs.Common.{sym, ◌∙◌, subst, arith, lt_of_not-le, mul-pos, mul-le-mul, true≢false, eqb-true, leb-true, ltb-true}
use Rattle.std.proofs.Common.{eq-eqb, ne_eqb, le-leb, inl, inr}
use Prim.Native.Nat.{ℕ, zero, suc, ◌+◌, ◌*◌, ◌/◌, ◌%◌, ◌^◌, ◌≤◌, ◌<◌}
use Rattle.std.specs.Prelude.{◌≢◌, ◌⊎◌, Bool, not, ◌&&◌, List, [], ◌∷◌, eqb, leb, ltb, length, get_or, drop, Ok, Err}
use Rattle.std.proofs.Math.Decide.{dec_le, ℕ_discrete}
use Rattle.std.proofs.Math.Bool.{true, false}
use Rattle.lists.specs.Lists.{byte, range, index_of}
use Rattle.lists.specs.ListLaws.{all_range, all_true, and_true}
use Rattle.lists.specs.Indices.{index_range}
use Rattle.format.specs.Refusals.{Try, Refusal, SIZE, refused, ok, refuse◌if◌, ◌>>◌}
use Rattle.format.specs.Geometry as format
use Rattle.format.specs.Geometry.{Format, ten, ten_moved, nine, unknown, stated, tracked, geometry, on_disc, sector_number, place_of, start_of, flat, Disc, sector}
use Rattle.format.specs.Arrangements.{Arranged}
use Rattle.format.specs.Formats.{GoodFormat}
use Rattle.format.proofs.Formats.{ten_good, moved_good, nine_good, other_arrangement, other_sectors, nine_moved}
use Rattle.format.specs.GeometryLaws.{Full}
use Rattle.format.proofs.GeometryLaws.{byte_cut, cut_full, flat_cut, place_below, plain_place, no_disc, geometry_ok, geometry_rest, geometry_none, geometry_many, geometry_done, on_disc_is, number_below, track_back, sector_back}
use Rattle.geometry.specs.Meaning.{kind_of, known, whole_tracks, packed, places_of, place_in, formed, form, geo, sized, sized_as, sectors_of, Valid, Image, Starts}
use Rattle.geometry.specs.declared.Geometry.{Geometry}
use Rattle.geometry.specs.declared.Stated.{Stated}
use Rattle.refusals.specs.declared.Refusal as code
use Rattle.refusals.specs.declared.Refusal.TheVariants.{Size}
use Rattle.refusals.specs.Meaning.{reason}

-- ---- what a caller states

-- what holds of ten sectors, plain and moved, and of nine holds of every kind of disc that there is
pub kinds : (P : ℕ → ℕ → Type 0) → P 10 0 → P 10 1 → P 9 0 → (s a : ℕ) → 9 ≤ s → s ≤ 10 → a ≤ 1 → 10 * a ≤ s → P s a
kinds P plain moved early s zero low high b c = elim (ℕ_discrete s 9) [
  | yes e ↦ subst (λ (s : ℕ). P s 0) (sym e) early
  | no e ↦ let is : 10 ≡ s = omega arith in subst (λ (s : ℕ). P s 0) is plain
]
kinds P plain moved early s (suc zero) low high b c = let is : 10 ≡ s = omega arith in subst (λ (s : ℕ). P s 1) is moved
kinds P plain moved early s (suc (suc a)) low high b c = absurd (omega arith)

pub known_is : (s : Stated) → known s ≡ true
    → (9 ≤ s.sectors) × (s.sectors ≤ 10) × (s.arrangement ≤ 1) × (10 * s.arrangement ≤ s.sectors)
known_is s e = elim (ℕ_discrete s.sectors 10) [
  | yes ten ↦ let a = leb-true s.arrangement 1 (rw (eq-eqb s.sectors 10 ten) at e) in (omega arith, omega arith, a, omega arith)
  | no other ↦
      let h = and_true (eqb s.arrangement 0) (eqb s.sectors 9) (rw (ne_eqb s.sectors 10 other) at e) in
      let plain = eqb-true s.arrangement 0 h.0 in
      let nine = eqb-true s.sectors 9 h.1 in
      (omega arith, omega arith, omega arith, omega arith)
]

pub known_not : (s : Stated) → known s ≡ false → kind_of s ≡ unknown
known_not s e = elim (dec_le s.arrangement 1) [
  | no a ↦ other_arrangement s.sectors s.arrangement (lt_of_not-le a)
  | yes a ↦ elim (ℕ_discrete s.sectors 10) [
    | yes ten ↦ absurd (true≢false (sym (le-leb s.arrangement 1 a) ∙ (rw (eq-eqb s.sectors 10 ten) at e)))
    | no other ↦ elim (ℕ_discrete s.sectors 9) [
      | no none ↦ other_sectors s.sectors s.arrangement none other
      | yes nine ↦ elim (ℕ_discrete s.arrangement 0) [
        | yes plain ↦ absurd (true≢false (rw (ne_eqb s.sectors 10 other, eq-eqb s.arrangement 0 plain, eq-eqb s.sectors 9 nine) at e))
        | no moved ↦ let one : s.arrangement ≡ 1 = omega arith in ap₂ stated nine one ∙ nine_moved
      ]
    ]
  ]
]

stated_per_track : (s a : ℕ) → 9 ≤ s → s ≤ 10 → a ≤ 1 → 10 * a ≤ s → (stated s a).per_track ≡ s
unfolding stated ten ten_moved nine
stated_per_track = kinds (λ s a. (stated s a).per_track ≡ s) refl refl refl

pub known_per_track : (s : Stated) → known s ≡ true → (kind_of s).per_track ≡ s.sectors
known_per_track s e = let k = known_is s e in stated_per_track s.sectors s.arrangement k.0 k.1 k.2 k.3

-- ---- the geometry of a length

-- what an accepted length says of the geometry
record Agrees (s : Stated) (n : ℕ) (g : Geometry) : Type 0 where
  is : geometry (kind_of s) n ≡ ok (tracked (kind_of s) g.tracks)
  same_track : g.per_track ≡ (kind_of s).per_track
  as_stated : g.arrangement ≡ s.arrangement
  placed : g.places ≡ places_of g.arrangement
  total : g.sectors ≡ format.sectors (geo g)

agrees : (s : Stated) (n : ℕ) (g : Geometry) (t : Try Refusal format.Geometry) → geometry (kind_of s) n ≡ t → sized s t ≡ Ok g → Agrees s n g
agrees s n g (refused e) p q = let z : ◌≡◌ {A = ℕ} 0 1 = cc in absurd (omega arith)
agrees s n g (ok G) p q =
    let e : code ≡ g = cc in
    let i = geometry_ok (kind_of s) n G p in
    let is : G ≡ tracked (kind_of s) g.tracks =
    ap₂ (λ (k : ℕ) (o : List ℕ). record { tracks = G.tracks; per_track = k; order = o }) i.per_track i.in_order
    ∙ ap (λ (g : Geometry). tracked (kind_of s) g.tracks) e in
    record {
      is = p ∙ ap ok is;
      same_track = sym (ap (λ (g : Geometry). g.per_track) e) ∙ i.per_track;
      as_stated = sym (ap (λ (g : Geometry). g.arrangement) e);
      placed = subst (λ (g : Geometry). g.places ≡ places_of g.arrangement) e refl;
      total = subst (λ (g : Geometry). g.sectors ≡ format.sectors (geo g)) e refl;
    }
  where
    code : Geometry
    code =
        record {
          tracks = G.tracks;
          per_track = G.per_track;
          sectors = format.sectors G;
          arrangement = s.arrangement;
          places = places_of s.arrangement;
        }

-- what an accepted image is: of the kind F, of this geometry, and as long
pub record Opened (F : Format) (g : Geometry) (image : List ℕ) : Type 0 where
  pub kind_is : F ≡ form g
  pub geometry_is : geometry (form g) (length image) ≡ ok (geo g)
  pub on_image : Image g image

module _ (g : Geometry) (image : List ℕ) (s : Stated) where
  opened_known : known s ≡ true → Agrees s (length image) g → Opened (kind_of s) g image
  opened_known e r =
      let k = known_is s e in
      let i = geometry_ok (kind_of s) (length image) (tracked (kind_of s) g.tracks) r.is in
      let per : g.per_track ≡ s.sectors = r.same_track ∙ known_per_track s e in
      let some : 0 < (geo g).per_track = omega (arith, k.0) in
      let low : 9 ≤ (geo g).per_track = omega (arith, k.0) in
      let high : (geo g).per_track ≤ 10 = omega (arith, k.1) in
      let kind_is : kind_of s ≡ form g =
      ap₂ (λ (p : ℕ) (F : Format). record { per_track = p; order = F.order; arrangement = F.arrangement })
      (sym r.same_track) (ap₂ stated (sym per) (sym r.as_stated)) in
      let long : 256 * format.sectors (tracked (kind_of s) g.tracks) ≡ 256 * g.sectors =
      ap (λ (F : Format). 256 * format.sectors (tracked F g.tracks)) kind_is ∙ ap (λ (n : ℕ). 256 * n) (sym r.total) in
      record {
        kind_is = kind_is;
        geometry_is = subst (λ (F : Format). geometry F (length image) ≡ ok (tracked F g.tracks)) kind_is r.is;
        on_image = record {
          valid = record {
            some_on_track = some;
            nine_on_track = low;
            few_on_track = high;
            arranged_as = omega (arith, r.as_stated, k.2);
            moved_ten = omega (arith, r.as_stated, per, k.3);
            placed_as = r.placed;
            some_track = i.some_track;
            few_tracks = i.few_tracks;
            total = r.total;
            some_sectors = omega (arith, mul-pos some i.some_track, r.total);
            few_sectors = omega (arith, mul-le-mul high i.few_tracks, r.total);
          };
          long = i.long ∙ long;
        };
      }

  -- an image of an accepted length
  pub opened : sized_as s (length image) ≡ Ok g → Opened (kind_of s) g image
  unfolding sized_as
  opened e = by (known s) refl
    where
      by : (b : Bool) → known s ≡ b → Opened (kind_of s) g image
      by true k = opened_known k (agrees s (length image) g _ refl e)
      by false k =
          let none = ap (λ (F : Format). geometry F (length image)) (known_not s k) ∙ no_disc (length image) in
          let z : ◌≡◌ {A = ℕ} 0 1 = cc none in
          absurd (omega arith)

-- a refused length
pub geometry_wrong : (s : Stated) (n : ℕ) (e : code.Refusal) → sized_as s n ≡ Err e → geometry (kind_of s) n ≡ refused (reason e)
unfolding sized_as geometry refuse◌if◌ ◌>>◌
geometry_wrong s n e is = by (tracked F (n / track)) (not (eqb (n % track) 0 && leb 1 (n / track) && leb (n / track) 80)) is
  where
    F : Format
    F = kind_of s

    track : ℕ
    track = 256 * F.per_track

    by : (G : format.Geometry) (b : Bool) → sized s (refuse SIZE if b >> ok G) ≡ Err e → (refuse SIZE if b >> ok G) ≡ refused (reason e)
    by G true is = let same : Size ≡ e = cc in ap (λ (e : code.Refusal). refused (reason e)) same
    by G false is = cc

pub sized_unknown : (s : Stated) (n : ℕ) → known s ≡ false → sized_as s n ≡ Err Size
unfolding sized_as
sized_unknown s n e = ap (sized s) (ap (λ (F : Format). geometry F n) (known_not s e) ∙ no_disc n)

-- the cases of the tracks in a length
pub whole_tracks_exact : (s n : ℕ) → n % (256 * s) ≡ 0 → whole_tracks s n ≡ n / (256 * s)
whole_tracks_exact s n e = rw (eq-eqb (n % (256 * s)) 0 e)

pub part_tracks : (s n : ℕ) → n % (256 * s) ≢ 0 → whole_tracks s n ≡ 0
part_tracks s n e = rw (ne_eqb (n % (256 * s)) 0 e)

-- T tracks in a length, as the code tests them
module _ (s : Stated) (e : known s ≡ true) (n T : ℕ) (is : T ≡ whole_tracks s.sectors n) where
  as_kind : T ≡ whole_tracks (kind_of s).per_track n
  as_kind = is ∙ ap (λ (k : ℕ). whole_tracks k n) (sym (known_per_track s e))

  -- some tracks, and no rest
  some : 1 ≤ T → (n % (256 * (kind_of s).per_track) ≡ 0) × (T ≡ n / (256 * (kind_of s).per_track))
  some h = elim (ℕ_discrete (n % (256 * (kind_of s).per_track)) 0) [
    | yes z ↦ (z, as_kind ∙ whole_tracks_exact (kind_of s).per_track n z)
    | no z ↦ absurd (omega (arith, as_kind, part_tracks (kind_of s).per_track n z))
  ]

  none : T < 1 → geometry (kind_of s) n ≡ refused SIZE
  none h = elim (ℕ_discrete (n % (256 * (kind_of s).per_track)) 0) [
    | yes z ↦ geometry_none (kind_of s) n z (omega (arith, as_kind, whole_tracks_exact (kind_of s).per_track n z))
    | no z ↦ geometry_rest (kind_of s) n z
  ]

  pub sized_none : T < 1 → sized_as s n ≡ Err Size
  unfolding sized_as
  sized_none h = ap (sized s) (none h)

  pub sized_many : 1 ≤ T → 80 < T → sized_as s n ≡ Err Size
  unfolding sized_as
  sized_many k l = let w = some k in ap (sized s) (geometry_many (kind_of s) n w.0 (omega (arith, w.1)) (omega (arith, w.1)))

  pub sized_out : (T < 1) ⊎ (80 < T) → sized_as s n ≡ Err Size
  sized_out (inl h) = sized_none h
  sized_out (inr h) = sized_many (omega arith) h

  pub sized_done : 1 ≤ T → T ≤ 80 → sized_as s n ≡ sized s (ok (record { tracks = T; per_track = s.sectors; order = (kind_of s).order }))
  unfolding sized_as
  sized_done k l =
      let w = some k in
      ap (sized s) (geometry_done (kind_of s) n w.0 (omega (arith, w.1)) (omega (arith, w.1))
      ∙ ap₂ (λ (t p : ℕ). ok (record { tracks = t; per_track = p; order = (kind_of s).order })) (sym w.1) (known_per_track s e))

-- ---- places

formed_good : (s a : ℕ) → 9 ≤ s → s ≤ 10 → a ≤ 1 → 10 * a ≤ s → GoodFormat (formed s a)
unfolding stated ten ten_moved nine
formed_good = kinds (λ s a. GoodFormat (formed s a)) ten_good moved_good nine_good

module _ {g : Geometry} (v : Valid g) where
  -- what holds of every kind of disc holds of the geometry's
  pub of_kind : {P : ℕ → ℕ → Type 0} → ((s a : ℕ) → 9 ≤ s → s ≤ 10 → a ≤ 1 → 10 * a ≤ s → P s a) → P g.per_track g.arrangement
  of_kind f = f _ _ v.nine_on_track v.few_on_track v.arranged_as v.moved_ten

  pub good : GoodFormat (form g)
  good = of_kind formed_good

  -- each sector of a track at one place
  pub each_once : Arranged (form g) (geo g)
  each_once = good.each_once

-- the places that a loop over the passing order has still to add, from place i on
abbrev pub places_left : ℕ → ℕ
places_left i = packed i (drop i (stated 10 1).arrangement)

-- one turn of that loop, as the code adds a place
pub places_step : (i : ℕ) → i < 10
    → (i * 2 ^ (4 * get_or (1 ∷ 4 ∷ 7 ∷ 10 ∷ 3 ∷ 6 ∷ 9 ∷ 2 ∷ 5 ∷ 8 ∷ []) i 0 + 8)) % 2 ^ 64 + places_left (i + 1) ≡ places_left i
unfolding stated ten_moved ten
places_step i h =
    eqb-true _ _ (all_range
    (λ i. eqb ((i * 2 ^ (4 * get_or (1 ∷ 4 ∷ 7 ∷ 10 ∷ 3 ∷ 6 ∷ 9 ∷ 2 ∷ 5 ∷ 8 ∷ []) i 0 + 8)) % 2 ^ 64 + places_left (i + 1)) (places_left i) ≡ true)
    0 10 i (all_true (range 0 10) refl) (omega arith) h)

pub places_done : (p i : ℕ) → i ≤ 10 → 10 ≤ i → p + places_left i ≡ places_left 0 → p ≡ places_of 1
unfolding places_of stated ten_moved ten
places_done p i low high e = let last : i ≡ 10 = omega arith in let all : p + places_left 10 ≡ places_left 0 = rw last at e in omega arith

-- what four bits give, and that it is a place on a track of ten
abbrev OffsetIn : (arrangement sector : ℕ) → Bool
OffsetIn a s = eqb (places_of a / 2 ^ (4 * s) / 256 % 16 * 256) (256 * place_in a s) && ltb (place_in a s) 10

pub offset_in : (a s : ℕ) → a ≤ 1 → 1 ≤ s → s ≤ 10 → (places_of a / 2 ^ (4 * s) / 256 % 16 * 256 ≡ 256 * place_in a s) × (place_in a s < 10)
unfolding places_of place_in stated ten_moved ten
offset_in a s known low high = by a known
  where
    either : (a : ℕ) → OffsetIn a s ≡ true → (places_of a / 2 ^ (4 * s) / 256 % 16 * 256 ≡ 256 * place_in a s) × (place_in a s < 10)
    either a e = let w = and_true _ _ e in (eqb-true _ _ w.0, ltb-true _ _ w.1)

    by : (a : ℕ) → a ≤ 1 → (places_of a / 2 ^ (4 * s) / 256 % 16 * 256 ≡ 256 * place_in a s) × (place_in a s < 10)
    by zero k = either 0 (all_range (λ s. OffsetIn 0 s ≡ true) 1 10 s (all_true (range 1 10) refl) low (omega arith))
    by (suc zero) k = either 1 (all_range (λ s. OffsetIn 1 s ≡ true) 1 10 s (all_true (range 1 10) refl) low (omega arith))
    by (suc (suc a)) k = absurd (omega arith)

-- ---- where sectors start

plain_in : (s : ℕ) → 1 ≤ s → s ≤ 10 → 1 + place_in 0 s ≡ s
unfolding place_in stated ten
plain_in s low high = index_range 1 10 s low (omega arith)

-- a sector's place by its number, reckoned with ten sectors a track: of nine, which is plain, the place is the number
abbrev Placed : (per_track arrangement : ℕ) → Type 0
Placed k a = (T n : ℕ) → n < k * T → place_of (formed k a) (tracked (formed k a) T) n ≡ 10 * (n / 10) + place_in a (n % 10 + 1)

plain_placed : (k : ℕ) → (stated k 0).arrangement ≡ range 1 k → Placed k 0
plain_placed k e T n h = plain_place (formed k 0) (tracked (formed k 0) T) e n h ∙ omega (arith, plain_in (n % 10 + 1) (omega arith) (omega arith))

placed : (k a : ℕ) → 9 ≤ k → k ≤ 10 → a ≤ 1 → 10 * a ≤ k → Placed k a
unfolding place_of place_in stated ten_moved ten nine
placed = kinds Placed (plain_placed 10 refl) (λ T n h. refl) (plain_placed 9 refl)

-- a sector's place on its track, likewise
abbrev Indexed : (per_track arrangement : ℕ) → Type 0
Indexed k a = (s : ℕ) → 1 ≤ s → s ≤ k → index_of s (stated k a).arrangement ≡ place_in a s

indexed : (k a : ℕ) → 9 ≤ k → k ≤ 10 → a ≤ 1 → 10 * a ≤ k → Indexed k a
unfolding place_in stated ten_moved ten nine
indexed =
    kinds Indexed (λ s low high. refl) (λ s low high. refl)
    (λ s low high. omega (arith, index_range 1 9 s low (omega arith), plain_in s low (omega arith)))

module _ {g : Geometry} (v : Valid g) where
  starts_place : (n p q : ℕ) → n < g.sectors → place_of (form g) (geo g) n ≡ p + q → Starts g n (256 * p + 256 * q)
  starts_place n p q on e =
      record { at = omega (arith, e); fits = omega (arith, place_below (form g) (geo g) (each_once v) n (omega (arith, v.total)), v.total, e) }

  -- a sector by its number
  pub starts : (n : ℕ) → n < g.sectors → Starts g n (2560 * (n / 10) + 256 * place_in g.arrangement (n % 10 + 1))
  starts n on =
      let s = starts_place n (10 * (n / 10)) _ on (of_kind v placed g.tracks n (omega (arith, v.total))) in
      record { at = omega (arith, s.at); fits = omega (arith, s.fits) }

  -- a sector by its track and its number there
  pub starts_at : (t s : ℕ) → on_disc (geo g) t s ≡ true
      → Starts g (sector_number (geo g) t s) (256 * (g.per_track * t) + 256 * place_in g.arrangement s)
  unfolding place_of
  starts_at t s e =
      let h = on_disc_is (geo g) t s e in
      let n : ℕ = sector_number (geo g) t s in
      let on : n < g.sectors = omega (arith, number_below (geo g) v.some_on_track t s h.0 h.1 h.2) in
      let at = ap₂ (λ (t s : ℕ). g.per_track * t + index_of s (form g).arrangement)
      (track_back (geo g) v.some_on_track t s h.1 h.2) (sector_back (geo g) v.some_on_track t s h.1 h.2)
      ∙ ap (λ (p : ℕ). g.per_track * t + p) (of_kind v indexed s h.1 h.2) in
      starts_place n (g.per_track * t) _ on at

-- ---- an image's sectors

module _ {g : Geometry} {image : List ℕ} (i : Image g image) where
  pub start_fits : (n : ℕ) → n < g.sectors → start_of (form g) (geo g) n + 256 ≤ length image
  start_fits n on = omega (arith, place_below (form g) (geo g) (each_once i.valid) n (omega (arith, i.valid.total)), i.valid.total, i.long)

  -- a byte of a sector, by where the sector starts
  pub byte_at : {n r : ℕ} → Starts g n r → n < g.sectors → (k : ℕ) → k < 256 → get_or image (r + k) 0 ≡ byte (sector (sectors_of g image) n) k
  byte_at {n} {r} s on k low =
      ap (λ (j : ℕ). get_or image (j + k) 0) s.at ∙ sym (byte_cut (form g) (geo g) (each_once i.valid) image n k (omega (arith, i.valid.total)) low)

  -- two bytes side by side
  pub bytes_at : {n r : ℕ} → Starts g n r → n < g.sectors → (k : ℕ) → k + 1 < 256
      → (get_or image (r + k) 0 ≡ byte (sector (sectors_of g image) n) k) × (get_or image (r + k + 1) 0 ≡ byte (sector (sectors_of g image) n) (k + 1))
  bytes_at {r = r} s on k low =
      let e : r + k + 1 ≡ r + (k + 1) = omega arith in
      (byte_at s on k (omega arith), ap (λ (j : ℕ). get_or image j 0) e ∙ byte_at s on (k + 1) low)

  pub link_at : {n r : ℕ} → Starts g n r → n < g.sectors
      → (get_or image r 0 ≡ byte (sector (sectors_of g image) n) 0) × (get_or image (r + 1) 0 ≡ byte (sector (sectors_of g image) n) 1)
  link_at {r = r} s on =
      let e : r ≡ r + 0 = omega arith in
      (ap (λ (j : ℕ). get_or image j 0) e ∙ byte_at s on 0 (omega arith), byte_at s on 1 (omega arith))

  -- an image of the same length
  pub image_kept : {after : List ℕ} → length after ≡ length image → Image g after
  image_kept h = record { valid = i.valid; long = h ∙ i.long }

  pub image_full : Full (geo g) (sectors_of g image)
  image_full = cut_full (form g) (geo g) (each_once i.valid) image (omega (arith, i.long, i.valid.total))

  -- joined again
  pub image_whole : (x : List ℕ) → length x ≡ length image → flat (form g) (geo g) (sectors_of g x) ≡ x
  image_whole x h = flat_cut (form g) (geo g) (each_once i.valid) x (omega (arith, i.long, i.valid.total))

  -- an image of the same length is its sectors, joined; it is the same image where they are the same
  pub image_is : (x : List ℕ) → length x ≡ length image → {d : Disc} → sectors_of g x ≡ d → x ≡ flat (form g) (geo g) d
  image_is x h e = sym (image_whole x h) ∙ ap (flat (form g) (geo g)) e

  pub image_stays : (x : List ℕ) → length x ≡ length image → sectors_of g x ≡ sectors_of g image → x ≡ image
  image_stays x h e = image_is x h e ∙ image_whole image refl

-- ---- sector numbers

-- t/s on the disc is the number of a sector
pub number_on : {g : Geometry} → Valid g → (t s : ℕ) → on_disc (geo g) t s ≡ true → sector_number (geo g) t s < g.sectors
number_on {g} v t s e =
    let h = on_disc_is (geo g) t s e in
    omega (arith, number_below (geo g) v.some_on_track t s h.0 h.1 h.2)
