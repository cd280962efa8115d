-- Laws of Meaning: the steps of a walk, the slots of a sector one after the other, the search.
-- Assumes nothing.
use Rattle.std.specs.Prelude.{◌≡◌, refl, ℕ, ◌+◌, ◌-◌, ◌<◌, Bool, true, false, not, Some, None, is_some}
use Rattle.std.proofs.Common.{sym, ◌∙◌, subst, arith, true≢false, get_or-take}
use Rattle.std.proofs.Math.Path.{ap, ap₂}
use Rattle.std.proofs.Math.Option.{none, some}
use Rattle.std.specs.declared.option.Option as found
use Rattle.slots.specs.declared.slot_no.SlotNo.{SlotNo}
use Rattle.slots.specs.Meaning.{slot_of}
use mathlib.Core.List.{List, [], ◌∷◌, ◌++◌, head?}
use Rattle.lists.specs.Lists.{byte, same, filter}
use Rattle.lists.specs.ListLaws.{All, head_of_all, tail_of, and_true, filter_join, filter_yes, filter_no, filter_filter, head_left, head_right, same_true}
use Rattle.format.specs.Geometry.{Geometry, sectors, Next, stop, go, off, pointed, Disc, sector}
use Rattle.format.specs.GeometryLaws as geometry
use Rattle.format.proofs.GeometryLaws.{pointed_on}
use Rattle.format.proofs.ChainLaws.{met_stop, met_off, met_go, met_below}
use Rattle.format.specs.Names.{letter, legal_stored}
use Rattle.format.specs.Layout.{slots_each, Slot, empty_slot, free_slot, in_use, name_of, slot_at, slots_at, slots_of, link_of, met, directory_pointer, directory, slots, entries, find, open_slot}
use Rattle.geometry.specs.Meaning.{geo, sectors_of, Image}
use Rattle.disc.specs.Meaning.{meaning, Inside}
use Rattle.disc.specs.Laws.{inside}
use Rattle.geometry.specs.declared.Geometry as code
use Rattle.disc.specs.declared.Link.{Link}
use Rattle.disc.specs.declared.Link.TheVariants.{End, To, Off}
use Rattle.slots.specs.InOrder.{slots_from, slots_next}
use Rattle.directory.specs.Ahead as wide
use Rattle.directory.specs.Walk.{rest_of}
use Rattle.directory.specs.Meaning.{entries_left, MeetsDisc, first_that, found_of, Within}
use Rattle.geometry.specs.declared.SectorNo.{SectorNo}
use Rattle.directory.specs.declared.walk.Sectors.{Sectors}

-- ---- the walk

module _ {g : code.Geometry} {image : List ℕ} (im : Image g image) where
  -- the sectors met are sectors of the disc
  pub directory_below : All (λ n. n < g.sectors) (directory (geo g) (sectors_of g image))
  unfolding directory geometry.OnDisc
  directory_below =
      subst (λ (N : ℕ). All (λ n. n < N) (directory (geo g) (sectors_of g image))) (sym im.valid.total)
      (met_below (geo g) (sectors_of g image) (sectors (geo g)) _ (pointed_on (geo g) _ _))

  -- what a track and a sector byte lead to is a sector of the disc
  pub led_below : (l : Link SectorNo) (t s : ℕ) → meaning l ≡ pointed (geo g) t s → (n : ℕ) → meaning l ≡ go n → n < g.sectors
  unfolding geometry.OnDisc
  led_below l t s e n to = omega (arith, pointed_on (geo g) t s n (sym e ∙ to), im.valid.total)

  -- a walk starts at the directory pointer, on its disc, and can meet as many sectors as the disc has
  pub started : (l : Link SectorNo) → meaning l ≡ directory_pointer (geo g) (sectors_of g image)
      → (met (geo g) (sectors_of g image) g.sectors (meaning l) ≡ directory (geo g) (sectors_of g image)) × Inside g l
  unfolding directory
  started l e = (ap₂ (met (geo g) (sectors_of g image)) im.valid.total e, inside im.valid l _ _ e)

  -- a loop over the sectors of the directory begins
  pub loop_starts : {w v : Sectors} → w ≡ v → rest_of v ≡ directory (geo g) (sectors_of g image)
      → MeetsDisc g w × (rest_of w ≡ directory (geo g) (sectors_of g image))
  loop_starts e all =
      let same = ap rest_of e ∙ all in
      (subst (All (λ n. n < g.sectors)) (sym same) directory_below, same)

-- and goes on after sector n
pub loop_goes : (g : code.Geometry) (w v : Sectors) {n : ℕ} → MeetsDisc g w → rest_of w ≡ n ∷ rest_of v → (n < g.sectors) × MeetsDisc g v
loop_goes g w v on next = let more = subst (All (λ n. n < g.sectors)) next on in (head_of_all more, tail_of more)

-- the link of a walk stays on its disc
pub at_inside : (w : Sectors) → Inside w.g w.at
at_inside w = by w.at w.inside
  where
    by : (l : Link SectorNo) → ((n : ℕ) → meaning l ≡ go n → n < w.g.sectors) → Inside w.g l
    by End h = tt
    by (To n) h = h n.0 refl
    by Off h = tt

-- every walk meets sectors of its disc
pub walk_below : (w : Sectors) → MeetsDisc w.g w
unfolding rest_of geometry.OnDisc
walk_below w =
    let total = w.on_image.valid.total in
    subst (λ (N : ℕ). All (λ n. n < N) (rest_of w)) (sym total)
    (met_below (geo w.g) (sectors_of w.g w.image.now) w.left (meaning w.at) (λ n to. omega (arith, w.inside n to, total)))

-- a walk that is over
module _ (w : Sectors) where
  pub rest_none : w.left ≡ 0 → rest_of w ≡ []
  unfolding rest_of
  rest_none e = wide.rest_none w.g w.image.now w.at w.left e

  pub rest_stop : meaning w.at ≡ stop → rest_of w ≡ []
  unfolding rest_of
  rest_stop e = wide.rest_stop w.g w.image.now w.at w.left e

  pub rest_off : meaning w.at ≡ off → rest_of w ≡ []
  unfolding rest_of
  rest_off e = wide.rest_off w.g w.image.now w.at w.left e

-- a walk of k sectors from a link
module _ (G : Geometry) (d : Disc) (k : ℕ) (l : Link SectorNo) where
  pub met_nowhere : ((n : SectorNo) → l ≡ To n → ⊥) → met G d k (meaning l) ≡ []
  met_nowhere h = by l refl
    where
      by : (m : Link SectorNo) → l ≡ m → met G d k (meaning m) ≡ []
      by End e = met_stop G d k
      by (To n) e = absurd (h n e)
      by Off e = met_off G d k

  pub met_next : (n : SectorNo) (next : Link SectorNo) → 0 < k → l ≡ To n → meaning next ≡ link_of G (sector d n.0)
      → met G d k (meaning l) ≡ n.0 ∷ met G d (k - 1) (meaning next)
  met_next n next more to e =
      ap (λ (m : Link SectorNo). met G d k (meaning m)) to
      ∙ met_go G d k n.0 more
      ∙ ap (λ (p : Next). n.0 ∷ met G d (k - 1) p) (sym e)

-- ---- the slots of sectors

pub slots_none : (d : Disc) → slots_of d [] ≡ []
unfolding slots_of
slots_none d = refl

pub slots_cons : (d : Disc) (n : ℕ) (ns : List ℕ) → slots_of d (n ∷ ns) ≡ slots_at d n ++ slots_of d ns
unfolding slots_of
slots_cons d n ns = refl

pub slots_are : (G : Geometry) (d : Disc) → slots G d ≡ slots_of d (directory G d)
unfolding slots
slots_are G d = refl

-- ---- the entries that a walk still meets

module _ (g : code.Geometry) (image : List ℕ) where
  pub left_all : (w : Sectors) → rest_of w ≡ directory (geo g) (sectors_of g image) → entries_left g image w ≡ entries (geo g) (sectors_of g image)
  unfolding entries_left
  left_all w e = wide.entries_all (sectors_of g image) (geo g) e

  pub left_met : (w v : Sectors) (n : ℕ) → rest_of w ≡ n ∷ rest_of v
      → entries_left g image w ≡ in_use (slots_from (sectors_of g image) n 0) ++ entries_left g image v
  unfolding entries_left
  left_met w v n e = wide.entries_met (sectors_of g image) e

pub left_over : (g : code.Geometry) (image : List ℕ) (w : Sectors) → rest_of w ≡ [] → entries_left g image w ≡ []
unfolding entries_left
left_over g image w e = wide.entries_none (sectors_of g image) e

-- ---- the first that passes a test

module _ (p : Slot → Bool) where
  -- among the slots of sector n from slot i on
  module _ (d : Disc) (n i : ℕ) (h : i < slots_each) where
    pub first_here : p (slot_at d n i) ≡ true → first_that p (slots_from d n i) ≡ some (slot_at d n i)
    first_here e = ap (first_that p) (slots_next d n i h) ∙ ap head? (filter_yes p (slot_at d n i) (slots_from d n (i + 1)) e)

    pub first_next : p (slot_at d n i) ≡ false → first_that p (slots_from d n i) ≡ first_that p (slots_from d n (i + 1))
    first_next e = ap (first_that p) (slots_next d n i h) ∙ ap head? (filter_no p (slot_at d n i) (slots_from d n (i + 1)) e)

  -- in sector n, or in those after it
  module _ (d : Disc) (n : ℕ) (ns : List ℕ) where
    first_join : first_that p (slots_of d (n ∷ ns)) ≡ head? (filter p (slots_at d n) ++ filter p (slots_of d ns))
    first_join = ap (first_that p) (slots_cons d n ns) ∙ ap head? (filter_join p (slots_at d n) (slots_of d ns))

    pub first_in : (s : Slot) → first_that p (slots_at d n) ≡ some s → first_that p (slots_of d (n ∷ ns)) ≡ some s
    first_in s e = first_join ∙ head_left s (filter p (slots_at d n)) (filter p (slots_of d ns)) e

    pub first_after : first_that p (slots_at d n) ≡ none → first_that p (slots_of d (n ∷ ns)) ≡ first_that p (slots_of d ns)
    first_after e = first_join ∙ head_right (filter p (slots_at d n)) (filter p (slots_of d ns)) e

  -- the search of sector n settles that of the sectors from n on, or leaves it to those after it
  module _ (d : Disc) (n : ℕ) (ns : List ℕ) where
    pub search_here : (r : found.Option SlotNo) → is_some r ≡ true → found_of d r ≡ first_that p (slots_at d n)
        → found_of d r ≡ first_that p (slots_of d (n ∷ ns))
    search_here (Some s) h e = sym (first_in d n ns (slot_of d s) (sym e))
    search_here None h e = absurd (true≢false (sym h))

    pub search_on : (r : found.Option SlotNo) → is_some r ≡ false → found_of d r ≡ first_that p (slots_at d n)
        → first_that p (slots_of d (n ∷ ns)) ≡ first_that p (slots_of d ns)
    search_on (Some s) h e = absurd (true≢false h)
    search_on None h e = first_after d n ns (sym e)

-- a slot of a sector of the disc
pub within_disc : (N n : ℕ) → n < N → (r : found.Option SlotNo) → Within (λ k. k ≡ n) r → Within (λ k. k < N) r
within_disc N n on (Some s) here = omega arith
within_disc N n on None here = tt

pub open_first : (G : Geometry) (d : Disc) → open_slot G d ≡ first_that free_slot (slots G d)
unfolding open_slot
open_first G d = refl

-- ---- no free slot has a legal name

-- the first byte of a legal name is a letter, that of a free slot is 0
named_used : (nine : List ℕ) → legal_stored nine ≡ true → (s : Slot) → same (name_of s) nine ≡ true → not (free_slot s) ≡ true
unfolding legal_stored letter free_slot empty_slot
named_used nine legal s named = by (free_slot s) refl
  where
    by : (b : Bool) → free_slot s ≡ b → not b ≡ true
    by false e = refl
    by true e =
        let zero-first : byte nine 0 ≡ 0 =
        ap (λ (xs : List ℕ). byte xs 0) (sym (same_true (name_of s) nine named))
        ∙ get_or-take 9 s.bytes 0 0 (omega arith)
        ∙ ap (λ (xs : List ℕ). byte xs 0) (same_true s.bytes empty_slot e) in
        absurd (true≢false (sym (and_true _ _ (and_true _ _ legal).0).0 ∙ ap letter zero-first))

pub find_first : (G : Geometry) (d : Disc) (nine : List ℕ) → legal_stored nine ≡ true → find G d nine ≡ first_that (λ s. same (name_of s) nine) (slots G d)
unfolding find entries in_use
find_first G d nine legal = ap head? (filter_filter (λ s. same (name_of s) nine) (λ s. not (free_slot s)) (named_used nine legal) (slots G d))
