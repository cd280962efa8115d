-- Laws of a walk along a directory, of any geometry, bytes, link and count. Those of `Sectors`, the walks that the code makes (Laws.antt), go by `rest_..`
-- and `entries_..`; `left_..` and `step_to` stand, though no proof cites them.
-- Assumes nothing.
use Rattle.std.specs.Prelude.{◌≡◌, ◌≢◌, ℕ, ◌-◌, ◌<◌}
use Rattle.std.proofs.Common.{sym, ◌∙◌, arith}
use Rattle.std.proofs.Math.Path.{ap}
use mathlib.Core.List.{List, [], ◌∷◌, ◌++◌}
use Rattle.format.specs.Geometry as format
use Rattle.format.specs.Geometry.{Next, stop, go, off, Disc, sector}
use Rattle.format.specs.Layout.{Slot, in_use, slots_at, slots_of, link_of, met, directory, slots, entries}
use Rattle.format.proofs.ChainLaws.{met_stop, met_off, met_none, met_go}
use Rattle.format.proofs.SlotLaws.{in_use_join}
use Rattle.geometry.specs.Meaning.{geo, sectors_of, Image}
use Rattle.geometry.specs.declared.Geometry.{Geometry}
use Rattle.geometry.specs.declared.SectorNo.{SectorNo}
use Rattle.disc.specs.Meaning.{meaning, Inside}
use Rattle.disc.specs.Laws.{inside}
use Rattle.disc.specs.declared.Link.{Link}
use Rattle.slots.specs.InOrder.{slots_from, slots_all}

-- the sectors that a walk from a link meets, `left` at most
abbrev pub ahead : Geometry → (image : List ℕ) → (at : Link SectorNo) → (left : ℕ) → List ℕ
ahead g image at left = met (geo g) (sectors_of g image) left (meaning at)

-- a walk that is over
module _ (g : Geometry) (image : List ℕ) (at : Link SectorNo) (left : ℕ) where
  pub rest_none : left ≡ 0 → ahead g image at left ≡ []
  rest_none e = ap (ahead g image at) e ∙ met_none _ _ _

  pub rest_stop : meaning at ≡ stop → ahead g image at left ≡ []
  rest_stop e = ap (met (geo g) (sectors_of g image) left) e ∙ met_stop _ _ _

  pub rest_off : meaning at ≡ off → ahead g image at left ≡ []
  rest_off e = ap (met (geo g) (sectors_of g image) left) e ∙ met_off _ _ _

-- the entries of sectors: of all of a directory, of sector n and those after it, of none
abbrev pub entries_in : Disc → List ℕ → List Slot
entries_in d ns = in_use (slots_of d ns)

module _ (d : Disc) {ns : List ℕ} where
  pub entries_all : (G : format.Geometry) → ns ≡ directory G d → entries_in d ns ≡ entries G d
  unfolding entries slots
  entries_all G e = ap (entries_in d) e

  pub entries_met : {ms : List ℕ} {n : ℕ} → ns ≡ n ∷ ms → entries_in d ns ≡ in_use (slots_from d n 0) ++ entries_in d ms
  unfolding slots_of
  entries_met {ms} {n} e =
      ap (entries_in d) e
      ∙ in_use_join (slots_at d n) (slots_of d ms)
      ∙ ap (λ (ss : List Slot). in_use ss ++ entries_in d ms) (slots_all d n)

  pub entries_none : ns ≡ [] → entries_in d ns ≡ []
  unfolding slots_of in_use
  entries_none e = ap (entries_in d) e

-- the same of the sectors that a walk meets
module _ (g : Geometry) (image : List ℕ) (at : Link SectorNo) (left : ℕ) where
  pub left_all : ahead g image at left ≡ directory (geo g) (sectors_of g image)
      → entries_in (sectors_of g image) (ahead g image at left) ≡ entries (geo g) (sectors_of g image)
  left_all e = entries_all (sectors_of g image) (geo g) e

  pub left_met : (n : ℕ) (next : Link SectorNo) (k : ℕ) → ahead g image at left ≡ n ∷ ahead g image next k
      → entries_in (sectors_of g image) (ahead g image at left)
      ≡ in_use (slots_from (sectors_of g image) n 0) ++ entries_in (sectors_of g image) (ahead g image next k)
  left_met n next k e = entries_met (sectors_of g image) e

  pub left_over : ahead g image at left ≡ [] → entries_in (sectors_of g image) (ahead g image at left) ≡ []
  left_over e = entries_none (sectors_of g image) e

-- a step on a disc to sector n, whose link is next
pub step_to : {g : Geometry} {image : List ℕ} → Image g image → (at next : Link SectorNo) (left n : ℕ) → left ≢ 0 → meaning at ≡ go n → n < g.sectors
    → meaning next ≡ link_of (geo g) (sector (sectors_of g image) n)
    → (ahead g image at left ≡ n ∷ ahead g image next (left - 1)) × (n < g.sectors) × Inside g next
step_to {g} {image} im at next left n more to on e =
    let d : Disc = sectors_of g image in (
      ap (met (geo g) d left) to ∙ met_go (geo g) d left n (omega arith) ∙ ap (λ (p : Next). n ∷ met (geo g) d (left - 1) p) (sym e),
      on,
      inside im.valid next _ _ e,
    )
