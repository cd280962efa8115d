-- Laws of a file: links that lead on, its sectors one after the other, and the header by the tests of the code.
-- Assumes nothing.
use Rattle.std.specs.Prelude.{◌≡◌, Bool, true, false, ◌&&◌, drop, eqb, leb, Some, None}
use Rattle.std.specs.declared.option.Option as code
use Rattle.std.proofs.Math.Path.{refl, ap}
use Rattle.std.proofs.Common.{sym, ap₂, ◌∙◌, arith, length-drop, drop-drop, get_or-drop}
use Prim.Native.Nat.{ℕ, ◌+◌, ◌-◌, ◌≤◌, ◌<◌}
use Rattle.std.proofs.Math.Bool.{cond}
use Rattle.std.proofs.lemmas.Bool.{false≢true}
use Rattle.std.proofs.Math.Option.{none, some}
use mathlib.Core.List.{List, [], ◌∷◌, ◌++◌}
use Rattle.std.proofs.Math.ListN.{length}
use Rattle.std.proofs.lemmas.List.{length-map}
use Rattle.geometry.specs.Laws.{image_full}
use Rattle.lists.specs.Lists.{byte, word_at}
use Rattle.lists.specs.ListLaws.{and_true, all_map, all_mapped}
use Rattle.format.specs.Geometry as format
use Rattle.format.specs.Geometry.{Next, stop, go, off, pointed, on_disc, sector_number, Disc, sector}
use Rattle.format.proofs.GeometryLaws.{pointed_on, sector_full}
use Rattle.format.specs.Layout.{Slot, length_of, link_of, met, first_of, file_chain}
use Rattle.format.proofs.ChainLaws.{met_stop, met_off, met_none, met_go, met_below, chain_met}
use Rattle.format.specs.Modules.{end_of, sectors_for, guessed, plain}
use Rattle.format.specs.Effects.{body, reading}
use Rattle.format.specs.RuleLaws.{GoodChain}
use Rattle.geometry.specs.Meaning.{geo, sectors_of, Image}
use Rattle.geometry.specs.declared.Geometry.{Geometry}
use Rattle.reading.specs.Plain.{filled, later_filled, later_bytes, size_of, numbered, headed}
use Rattle.reading.specs.Meaning.{leads, after, body_of, bodies_of, file_bodies, bodies_after, File, Followed, header_of, numbers_in}
use Rattle.reading.specs.PlainLaws.{Long, plain_is, headed_size, headed_end, by_filled}
use Rattle.reading.specs.SectorLaws.{body_small}
use Rattle.reading.specs.declared.answer.Header.{Header}

-- ---- a link that leads to a sector

module _ (G : format.Geometry) (t s : ℕ) where
  by_tests : (a b : Bool) → leads (cond a stop (cond b (go (sector_number G t s)) off)) ≡ true
      → (b ≡ true) × (go (sector_number G t s) ≡ cond a stop (cond b (go (sector_number G t s)) off))
  by_tests true b e = absurd (false≢true e)
  by_tests false true e = (refl, refl)
  by_tests false false e = absurd (false≢true e)

  pub leads_on_disc : leads (pointed G t s) ≡ true → on_disc G t s ≡ true
  unfolding pointed
  leads_on_disc e = (by_tests (eqb s 0) (on_disc G t s) e).0

  pub leads_number : leads (pointed G t s) ≡ true → go (sector_number G t s) ≡ pointed G t s
  unfolding pointed
  leads_number e = (by_tests (eqb s 0) (on_disc G t s) e).1

-- ---- the sectors of a file, one after the other

step_on : (G : format.Geometry) (d : Disc) (n m count j : ℕ) → j < count → go m ≡ link_of G (sector d n)
    → after G d n (count - j) ≡ m ∷ after G d m (count - (j + 1))
step_on G d n m count j h e =
    let left : count - j - 1 ≡ count - (j + 1) = omega arith in
    ap (met G d (count - j)) (sym e) ∙ met_go G d (count - j) m (omega arith) ∙ ap (λ (k : ℕ). m ∷ after G d m k) left

some_leads : (G : format.Geometry) (d : Disc) (k : ℕ) (p : Next) → 0 < k → length (met G d k p) ≡ k → leads p ≡ true
some_leads G d k stop h e = absurd (omega (arith, ap length (met_stop G d k)))
some_leads G d k (go n) h e = refl
some_leads G d k off h e = absurd (omega (arith, ap length (met_off G d k)))

module _ {g : Geometry} {image : List ℕ} where
  pub file_first : {first count : ℕ} → File g image first count
      → met (geo g) (sectors_of g image) count (go first) ≡ first ∷ after (geo g) (sectors_of g image) first (count - 1)
  file_first {first} {count} f = met_go (geo g) (sectors_of g image) count first f.some_sector

  pub file_followed : {first count : ℕ} → File g image first count → Followed g image first (count - 1)
  file_followed f = record { is_on_disc = f.is_on_disc; lasts = omega (arith, ap length (file_first f), f.lasts, f.some_sector) }

  module _ (n count j : ℕ) (f : Followed g image n (count - j)) (h : j < count) where
    pub followed_leads : leads (link_of (geo g) (sector (sectors_of g image) n)) ≡ true
    followed_leads = some_leads (geo g) (sectors_of g image) (count - j) _ (omega arith) f.lasts

    module _ (m : ℕ) (e : go m ≡ link_of (geo g) (sector (sectors_of g image) n)) where
      pub followed_step : m < g.sectors → Followed g image m (count - (j + 1))
      followed_step on = record { is_on_disc = on; lasts = omega (arith, ap length (step_on (geo g) (sectors_of g image) n m count j h e), f.lasts) }

      -- the first of the sectors that follow, and the others
      step_filled : (left : ℕ)
          → later_filled left (bodies_after g image n (count - j))
          ≡ filled left (body_of g image m) && later_filled (left - 253) (bodies_after g image m (count - (j + 1)))
      unfolding later_filled
      step_filled left = ap (λ (ns : List ℕ). later_filled left (bodies_of (sectors_of g image) ns)) (step_on (geo g) (sectors_of g image) n m count j h e)

      pub filled_step : (left : ℕ) → filled left (body_of g image m) ≡ true
          → later_filled (left - 253) (bodies_after g image m (count - (j + 1)))
          ≡ later_filled left (bodies_after g image n (count - j))
      filled_step left t = sym (step_filled left ∙ simp t)

      pub filled_stop : (left : ℕ) → filled left (body_of g image m) ≡ false
          → later_filled left (bodies_after g image n (count - j)) ≡ false
      filled_stop left t = step_filled left ∙ simp t

      pub bytes_step : later_bytes (bodies_after g image n (count - j))
          ≡ drop 3 (sector (sectors_of g image) m) ++ later_bytes (bodies_after g image m (count - (j + 1)))
      bytes_step =
          ap (λ (ns : List ℕ). later_bytes (bodies_of (sectors_of g image) ns)) (step_on (geo g) (sectors_of g image) n m count j h e)
          ∙ ap (λ (xs : List ℕ). xs ++ later_bytes (bodies_after g image m (count - (j + 1)))) (drop-drop 1 2 (sector (sectors_of g image) m))

pub none_follow : (G : format.Geometry) (d : Disc) (n k : ℕ) → k ≡ 0 → after G d n k ≡ []
none_follow G d n k e = ap (after G d n) e ∙ met_none G d (link_of G (sector d n))

-- ---- the header in a first sector

-- the tests of its numbers, and the numbers, read one by one
pub numbered_read : (s : List ℕ) {t : Bool} {mark page start end : ℕ} → mark ≡ byte s 2 → page ≡ byte s 3
    → start ≡ word_at s 4 → end ≡ word_at s 6 → t ≡ eqb mark 0xFF && leb page 7 && leb start end → t ≡ numbered (body s)
unfolding numbered
numbered_read s m p a b t = simp (get_or-drop, t, m, p, a, b)

pub numbers_read : (s : List ℕ) {page start end transfer size : ℕ} → page ≡ byte s 3
    → start ≡ word_at s 4 → end ≡ word_at s 6 → transfer ≡ word_at s 8 → size ≡ end + 1 - start
    → ◌≡◌ {A = Header} (record { page = page; start = start; end = end; transfer = transfer; length = size }) (numbers_in (body s))
numbers_read s p a b t l = simp (get_or-drop, l, p, a, b, t)

-- what an optional header says of the test that it depends on
pub none_where : (t : Bool) (h : Header) → ◌≡◌ {A = code.Option Header} None (cond t (Some h) None) → t ≡ false
none_where true h e = absurd (cc)
none_where false h e = refl

pub some_where : (t : Bool) (h : Header) {n : Header} → ◌≡◌ {A = code.Option Header} (Some n) (cond t (Some h) None) → (t ≡ true) × (n ≡ h)
some_where true h e = (refl, cc)
some_where false h e = absurd (cc)

-- h are the numbers in the sector s: after the tests of the numbers and of `count`, that of the last part decides
pub by_first_part : (s : List ℕ) (count : ℕ) (h : Header) → h ≡ numbers_in (body s) → numbered (body s) ≡ true → sectors_for h.length ≡ count
    → headed (body s) count ≡ filled h.length (drop 10 s)
by_first_part s count h e n k =
    let size : h.length ≡ size_of (body s) = ap (λ (h : Header). h.length) e in
    by_filled (body s) count n (ap sectors_for (sym size) ∙ k) ∙ ap₂ filled (sym size) (drop-drop 8 2 s)

-- ---- the header of a file

module _ {g : Geometry} {image : List ℕ} {first count : ℕ} (f : File g image first count) (small : (i : ℕ) → byte image i < 256) where
  -- the bytes after a link are 254
  body_long : (n : ℕ) → n < format.sectors (geo g) → length (body_of g image n) ≡ 254
  body_long n on =
      let full = image_full f.on_image in
      length-drop 2 (sector (sectors_of g image) n) ∙ omega (arith, sector_full full n on)

  later_long : Long (bodies_after g image first (count - 1))
  later_long =
      all_mapped (body_of g image)
      (all_map body_long (met_below (geo g) (sectors_of g image) (count - 1) (link_of (geo g) (sector (sectors_of g image) first)) (pointed_on (geo g) _ _)))

  file_long : length (body_of g image first ∷ bodies_after g image first (count - 1)) ≡ count
  file_long =
      omega (arith, length-map (after (geo g) (sectors_of g image) first (count - 1)) (body_of g image), (file_followed f).lasts, f.some_sector)

  -- the answer by the tests of the code
  header_is : header_of (plain (file_bodies g image first count))
      ≡ cond (headed (body_of g image first) count && later_filled (size_of (body_of g image first) - 245) (bodies_after g image first (count - 1)))
      (Some (numbers_in (body_of g image first)))
      None
  unfolding guessed
  header_is =
      ap (λ (ns : List ℕ). header_of (plain (bodies_of (sectors_of g image) ns))) (file_first f)
      ∙ ap header_of (plain_is b bs long later_long bytes)
      ∙ by (headed b (length (b ∷ bs)) && later_filled (size_of b - 245) bs) refl
      ∙ ap (λ (n : ℕ). cond (headed b n && later_filled (size_of b - 245) bs) (Some (numbers_in b)) None) file_long
    where
      b : List ℕ
      b = body_of g image first

      bs : List (List ℕ)
      bs = bodies_after g image first (count - 1)

      long : length b ≡ 254
      long = body_long first (omega (arith, f.is_on_disc, f.on_image.valid.total))

      bytes : (k : ℕ) → k < 8 → byte b k < 256
      bytes k h = body_small f.on_image small first f.is_on_disc k (omega arith)

      by : (t : Bool) → headed b (length (b ∷ bs)) && later_filled (size_of b - 245) bs ≡ t
          → header_of (cond t (some (guessed (b ∷ bs))) none) ≡ cond t (Some (numbers_in b)) None
      by true e =
          let h = (and_true (headed b (length (b ∷ bs))) (later_filled (size_of b - 245) bs) e).0 in
          let end : end_of (guessed (b ∷ bs)) ≡ word_at b 4 = headed_end b bs long later_long bytes h in
          let size : length (guessed (b ∷ bs)).bytes ≡ size_of b = headed_size b bs long later_long bytes h in
          λ i. Some (record { page = byte b 1; start = word_at b 2; end = end i; transfer = word_at b 6; length = size i })
      by false e = refl

  pub first_refused : headed (body_of g image first) count ≡ false → header_of (plain (file_bodies g image first count)) ≡ None
  first_refused e = header_is ∙ simp e

  -- h are the numbers in the first sector
  pub by_later_sectors : (h : Header) → headed (body_of g image first) count ≡ true → h ≡ numbers_in (body_of g image first)
      → header_of (plain (file_bodies g image first count)) ≡ cond (later_filled (h.length - 245) (bodies_after g image first (count - 1))) (Some h) None
  by_later_sectors h t e =
      let b : List ℕ = body_of g image first in
      let bs : List (List ℕ) = bodies_after g image first (count - 1) in
      header_is
      ∙ ap (λ (t : Bool). cond (t && later_filled (size_of b - 245) bs) (Some (numbers_in b)) None) t
      ∙ ap (λ (n : Header). cond (later_filled (n.length - 245) bs) (Some n) None) (sym e)

-- ---- the file of an entry on a sound disc

module _ {g : Geometry} {image : List ℕ} {s : Slot} (i : Image g image) (file : GoodChain (geo g) (sectors_of g image) s) (some_sector : 1 ≤ length_of s) where
  -- its first sector and its length are what the functions of this crate ask for, and its sectors are the whole chain
  module _ (first count : ℕ) (starts : first_of (geo g) s ≡ go first) (on : first < g.sectors) (long : count ≡ length_of s) where
    whole_chain : met (geo g) (sectors_of g image) count (go first) ≡ file_chain (geo g) (sectors_of g image) s
    whole_chain =
        ap (met (geo g) (sectors_of g image) count) (sym starts)
        ∙ chain_met (geo g) (sectors_of g image) count file.chained (omega (arith, file.as_long))

    pub entry_file : File g image first count
    entry_file = record { on_image = i; is_on_disc = on; some_sector = omega arith; lasts = ap length whole_chain ∙ file.as_long ∙ sym long }

    pub entry_reading : plain (file_bodies g image first count) ≡ reading (geo g) (sectors_of g image) s
    unfolding reading
    entry_reading = ap (λ (ns : List ℕ). plain (bodies_of (sectors_of g image) ns)) whole_chain
