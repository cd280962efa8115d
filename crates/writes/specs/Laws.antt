-- Laws of the list of what was written: a sector's bytes where they lie in the image, the walk along a file's chain, and the list record by record.
-- Assumes nothing.
use Rattle.std.specs.Prelude.{◌≡◌, ℕ, ◌+◌, ◌*◌, ◌-◌, ◌≤◌, ◌<◌, length, take, drop, Ok, Err}
use Rattle.std.proofs.Math.Path.{refl, ap}
use Rattle.std.proofs.Common.{sym, ap₂, ◌∙◌, arith}
use mathlib.Core.List.{List, [], ◌∷◌, ◌++◌, map, append-nil, append_assoc}
use Rattle.std.proofs.lemmas.List.Edits.{sets}
use Rattle.lists.specs.Lists.{times}
use Rattle.format.specs.Geometry as format
use Rattle.format.specs.Geometry.{Next, go, Disc, sector, track_of, sector_of, Write, written}
use Rattle.format.specs.GeometryLaws.{OnDisc}
use Rattle.format.proofs.GeometryLaws.{sector_cut, sector_full}
use Rattle.lists.specs.ListLaws.{All}
use Rattle.format.specs.Layout.{link_of, met}
use Rattle.format.proofs.ChainLaws.{met_none, met_go, met_stop, met_off, met_below}
use Rattle.format.specs.Refusals.{ok}
use Rattle.format.specs.Writes.{record_of, write_list, list_size}
use Rattle.format.specs.WriteLaws.{WholeOn}
use Rattle.format.proofs.WriteLaws.{list_long}
use Rattle.soundness.specs.CopiedOut.{standing, records_at, copied, copied_join, records_long, copied_out}
use Rattle.geometry.specs.Meaning.{form, geo, sectors_of, Image}
use Rattle.disc.specs.Meaning.{meaning, Inside, Lies, led}
use Rattle.geometry.specs.Laws.{each_once, image_full}
use Rattle.geometry.specs.declared.Geometry.{Geometry}
use Rattle.geometry.specs.declared.SectorNo.{SectorNo}
use Rattle.disc.specs.declared.Sector.{Sector}
use Rattle.disc.specs.declared.Link.{Link}
use Rattle.disc.specs.declared.Link.TheVariants.{End, To, Off}
use Rattle.records.specs.Storing.{Stored, Storing, storing_all, storing_step, storing_end}
use Rattle.lists.specs.Stores.{sets_front}
use Rattle.refusals.specs.declared.Refusal.TheVariants.{Short}
use Rattle.answers.specs.Meaning.{Lists}
use Rattle.answers.specs.Listed.{short_lists, done_lists}
use Rattle.writes.specs.Meaning.{Copied}

-- ---- one record

-- a sector's bytes where they lie in the image
pub whole_sector : {g : Geometry} {image : List ℕ} → Image g image → (s : Sector) → Lies g s → (end : ℕ) → end ≡ s.start + 256
    → take (end - s.start) (drop s.start image) ≡ sector (sectors_of g image) s.number.0
whole_sector {g} {image} i s l end e =
    let size : end - s.start ≡ 256 = omega arith in
    ap₂ (λ (k a : ℕ). take k (drop a image)) size l.at
    ∙ sym (sector_cut (form g) (geo g) (each_once i.valid) image s.number.0 (omega (arith, l.on, i.valid.total)))

pub record_long : {g : Geometry} {image : List ℕ} → Image g image → (n : ℕ) → n < g.sectors
    → length (record_of (geo g) (standing (sectors_of g image) n)) ≡ 259
unfolding record_of
record_long i n h = omega (arith, sector_full (image_full i) n (omega (arith, i.valid.total)))

-- track, sector and bytes of a record
pub record_of_write : (G : format.Geometry) (d : Disc) (n : ℕ) {t s : ℕ} {bytes : List ℕ} → t ≡ track_of G n → s ≡ sector_of G n → bytes ≡ sector d n
    → 3 ∷ (t ∷ s ∷ []) ++ bytes ≡ record_of G (standing d n)
unfolding record_of
record_of_write G d n e f h = λ i. 3 ∷ e i ∷ f i ∷ h i

-- ---- the records of a chain

module _ (G : format.Geometry) (d : Disc) where
  -- the records of the sectors that a walk of at most k steps meets
  abbrev pub walked : ℕ → Next → List ℕ
  walked k p = records_at G d (met G d k p)

  -- a walk from a link that leads to no sector
  pub walked_stops : (k : ℕ) (s : Link Sector) → ((to : Sector) → s ≡ To to → ⊥) → walked k (led s) ≡ []
  unfolding records_at
  walked_stops k End h = ap (records_at G d) (met_stop G d k)
  walked_stops k (To n) h = absurd (h n refl)
  walked_stops k Off h = ap (records_at G d) (met_off G d k)

  pub walked_none : (p : Next) (k : ℕ) → k ≡ 0 → walked k p ≡ []
  unfolding records_at
  walked_none p k e = ap (λ (j : ℕ). walked j p) e ∙ ap (records_at G d) (met_none G d p)

  pub walked_go : (k n : ℕ) {p q : Next} → 0 < k → p ≡ go n → q ≡ link_of G (sector d n) → walked k p ≡ record_of G (standing d n) ++ walked (k - 1) q
  unfolding records_at
  walked_go k n h e f =
      ap (walked k) e ∙ ap (records_at G d) (met_go G d k n h) ∙ ap (λ (r : Next). record_of G (standing d n) ++ walked (k - 1) r) (sym f)

-- a link to a sector of the disc, or to none
inside_on : {g : Geometry} {image : List ℕ} → Image g image → (l : Link SectorNo) → Inside g l → OnDisc (geo g) (meaning l)
unfolding OnDisc
inside_on i End h n e = let z : ◌≡◌ {A = ℕ} 0 1 = cc in absurd (omega arith)
inside_on i (To m) h n e = let is : m.0 ≡ n = cc in omega (arith, i.valid.total)
inside_on i Off h n e = let z : ◌≡◌ {A = ℕ} 0 1 = cc in absurd (omega arith)

-- the walk from a link as far as it leads meets sectors of the disc
pub walked_long : {g : Geometry} {image : List ℕ} → Image g image → (count : ℕ) (first : Link SectorNo) → Inside g first
    → length (walked (geo g) (sectors_of g image) count (meaning first)) ≡ 259 * length (met (geo g) (sectors_of g image) count (meaning first))
walked_long {g} {image} i count first h =
    records_long (geo g) (sectors_of g image) (image_full i) (met_below (geo g) (sectors_of g image) count (meaning first) (inside_on i first h))

-- ---- a list, record by record

module _ {lent all b : List ℕ} {at : ℕ} (G : format.Geometry) (d : Disc) where
  pub copied_step : (n : ℕ) (ns : List ℕ) → Storing lent 0 all b at (copied G d (n ∷ ns))
      → {b' : List ℕ} {next : ℕ} → Stored b at (record_of G (standing d n)) b' next → Storing lent 0 all b' next (copied G d ns)
  unfolding records_at
  copied_step n ns s t = storing_step (record_of G (standing d n)) (copied G d ns) s (append_assoc (record_of G (standing d n)) (records_at G d ns) (0 ∷ [])) t

  pub copied_end : Storing lent 0 all b at (copied G d []) → {b' : List ℕ} {next : ℕ} → Stored b at (0 ∷ []) b' next → Stored lent 0 all b' next
  unfolding records_at
  copied_end s t = storing_end (storing_step (0 ∷ []) [] s refl t) refl

-- the records in front, stored
pub front_stored : {b b₁ b₂ : List ℕ} {one next : ℕ} (G : format.Geometry) (d : Disc) (n : ℕ) (ns : List ℕ)
    → Stored b 0 (record_of G (standing d n)) b₁ one → Stored b₁ one (records_at G d ns) b₂ next → Stored b 0 (records_at G d (n ∷ ns)) b₂ next
unfolding records_at
front_stored {b} G d n ns s t =
    let all = storing_all b 0 {all = records_at G d (n ∷ ns)} refl in
    let one = storing_step (record_of G (standing d n)) (records_at G d ns) all refl s in
    storing_end (storing_step (records_at G d ns) [] one (sym (append-nil (records_at G d ns))) t) refl

-- then the rest of the list
pub front_then : {lent b : List ℕ} {next : ℕ} (G : format.Geometry) (d : Disc) (xs ys : List ℕ) → Stored lent 0 (records_at G d xs) b next
    → Storing lent 0 (copied G d (xs ++ ys)) b next (copied G d ys)
front_then {lent} G d xs ys s =
    storing_step (records_at G d xs) (copied G d ys) (storing_all lent 0 {all = copied G d (xs ++ ys)} refl) (copied_join G d xs ys) s

-- ---- what a command leaves that wrote whole sectors of the disc, each once, and copied them out

module _ {g : Geometry} {before : List ℕ} (lent : List ℕ) (i : Image g before) (ws : List Write) (whole : All (WholeOn (geo g)) ws) where
  pub listed_short : length lent < list_size (length ws) → Lists g before before lent lent (Err Short) (ok ws)
  listed_short short = short_lists g before lent ws (omega (arith, list_long (geo g) whole))

  pub listed_done : ((n : ℕ) → times n (map (λ w. w.at) ws) ≤ 1) → {after buffer ns : List ℕ} {r : ℕ} → list_size (length ws) ≤ length lent
      → sectors_of g after ≡ written ws (sectors_of g before) → ns ≡ map (λ w. w.at) ws → Copied g after ns lent buffer r
      → Lists g before after lent buffer (Ok r) (ok ws)
  listed_done once {after} {buffer} {ns} {r} room s e c =
      let list : List ℕ = write_list (geo g) ws in
      let is : copied (geo g) (sectors_of g after) ns ≡ list =
      ap₂ (copied (geo g)) s e ∙ copied_out (geo g) (sectors_of g before) (image_full i) ws whole once in
      let fits : length list ≤ length lent = omega (arith, list_long (geo g) whole) in
      let size : r ≡ length list = c.position ∙ omega (arith, ap length is) in
      done_lists g before lent ws fits s size (c.buffer ∙ ap (sets lent 0) is ∙ sets_front lent list fits)
