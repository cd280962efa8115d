-- The law of a walk from a step that ends it, by the number of the step's case. The code takes steps by their variants now; the law stands, though no proof
-- cites it.
-- Assumes nothing.
use Rattle.std.specs.Prelude.{◌≡◌, ◌⊎◌, ℕ, []}
use Rattle.std.proofs.Common.{⊎_elim, arith}
use denote.Enum.Declared.{tag_of}
use Rattle.format.specs.Geometry as format
use Rattle.format.specs.Geometry.{Disc}
use Rattle.disc.specs.contracts.Link.{the_type}
use Rattle.disc.specs.contracts.Sector.{the_row}
use Rattle.disc.specs.Meaning.{led}
use Rattle.disc.specs.declared.Sector.{Sector}
use Rattle.disc.specs.declared.Link.{Link}
use Rattle.disc.specs.declared.Link.TheVariants.{End, To, Off}
use Rattle.writes.specs.Laws.{walked, walked_stops}

-- the number of a step's case, as a match on it tells
abbrev pub case_of : Link Sector → ℕ
case_of s = tag_of (the_type the_row) s

pub walked_ended : (G : format.Geometry) (d : Disc) (k : ℕ) (s : Link Sector) → (case_of s ≡ 0) ⊎ (case_of s ≡ 2) → walked G d k (led s) ≡ []
walked_ended G d k s h = walked_stops G d k s (by s h)
  where
    by : (s : Link Sector) → (case_of s ≡ 0) ⊎ (case_of s ≡ 2) → (to : Sector) → s ≡ To to → ⊥
    by End h to e = absurd (cc)
    by (To n) h to e = ⊎_elim (λ (e : case_of (To n) ≡ 0). omega arith) (λ (e : case_of (To n) ≡ 2). omega arith) h
    by Off h to e = absurd (cc)
