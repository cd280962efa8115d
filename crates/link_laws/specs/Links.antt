-- Laws of links that code takes apart by a match: one that leads to a sector, and one that ends a walk.
-- Assumes nothing.
use Rattle.std.specs.Prelude.{◌≡◌, ◌⊎◌, ℕ, ◌<◌, []}
use Rattle.std.proofs.Common.{refl, sym, ap, ◌∙◌, subst, ⊎_elim, inl, inr, arith}
use denote.Enum.Declared.{tag_of}
use Rattle.format.specs.Geometry as format
use Rattle.format.specs.Geometry.{go, Disc}
use Rattle.format.specs.Layout.{met}
use Rattle.format.proofs.ChainLaws.{met_stop, met_off}
use Rattle.disc.specs.contracts.Link.{the_type}
use Rattle.geometry.specs.contracts.SectorNo.{the_row}
use Rattle.disc.specs.Meaning.{meaning, Inside}
use Rattle.geometry.specs.declared.Geometry.{Geometry}
use Rattle.geometry.specs.declared.SectorNo.{SectorNo}
use Rattle.disc.specs.declared.Link.{Link}
use Rattle.disc.specs.declared.Link.TheVariants.{End, To, Off}

-- the number of a link's case, as a match on it tells
abbrev pub case_of : Link SectorNo → ℕ
case_of l = tag_of (the_type the_row) l

-- a link that leads to no sector is one of the other two, as the `else` of a `let` tells it
pub case_else : (l : Link SectorNo) → ((n : SectorNo) → l ≡ To n → ⊥) → (case_of l ≡ 0) ⊎ (case_of l ≡ 2)
case_else End h = inl refl
case_else (To n) h = absurd (h n refl)
case_else Off h = inr refl

-- it is neither of the other two cases
pub not_other : (l : Link SectorNo) {n : ℕ} → meaning l ≡ go n → (case_of l ≡ 0) ⊎ (case_of l ≡ 2) → ⊥
not_other End e h = let z : ◌≡◌ {A = ℕ} 0 1 = cc in omega arith
not_other (To m) e h = ⊎_elim (λ (e : case_of (To m) ≡ 0). omega arith) (λ (e : case_of (To m) ≡ 2). omega arith) h
not_other Off e h = let z : ◌≡◌ {A = ℕ} 0 1 = cc in omega arith

-- the sector that is found
pub found_sector : {l : Link SectorNo} {m : SectorNo} {n : ℕ} → l ≡ To m → meaning l ≡ go n → m.0 ≡ n
found_sector {m = m} {n = n} e f = let same : go m.0 ≡ go n = sym (ap meaning e) ∙ f in cc

-- it is on the disc
pub found_inside : (g : Geometry) {l : Link SectorNo} {m : SectorNo} → l ≡ To m → Inside g l → m.0 < g.sectors
found_inside g e h = subst (Inside g) e h

-- a walk from a link that leads to no sector
pub met_ended : (G : format.Geometry) (d : Disc) (k : ℕ) (l : Link SectorNo) → (case_of l ≡ 0) ⊎ (case_of l ≡ 2) → met G d k (meaning l) ≡ []
met_ended G d k End h = met_stop G d k
met_ended G d k (To n) h = absurd (⊎_elim (λ (e : case_of (To n) ≡ 0). omega arith) (λ (e : case_of (To n) ≡ 2). omega arith) h)
met_ended G d k Off h = met_off G d k
