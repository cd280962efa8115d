-- The link that `saving_sectors::link_in_file` gives is inside the disc.
-- Assumes nothing.
use Rattle.std.specs.Prelude.{◌≡◌, ℕ, Bool, true, false, cond}
use Rattle.std.proofs.Common.{arith}
use Rattle.format.specs.Geometry.{stop}
use Rattle.disc.specs.Meaning.{meaning, Inside}
use Rattle.geometry.specs.declared.Geometry.{Geometry}
use Rattle.geometry.specs.declared.SectorNo.{SectorNo}
use Rattle.disc.specs.declared.Link.{Link}
use Rattle.disc.specs.declared.Link.TheVariants.{End, To, Off}

pub link_inside : (g : Geometry) (b : Bool) (l next : Link SectorNo) → Inside g next → meaning l ≡ cond b (meaning next) stop → Inside g l
link_inside g b End next h e = tt
link_inside g b Off next h e = tt
link_inside g true (To n) (To k) h e = let same : n.0 ≡ k.0 = cc in omega arith
link_inside g true (To n) End h e = let z : ◌≡◌ {A = ℕ} 0 1 = cc in absurd (omega arith)
link_inside g true (To n) Off h e = let z : ◌≡◌ {A = ℕ} 0 1 = cc in absurd (omega arith)
link_inside g false (To n) next h e = let z : ◌≡◌ {A = ℕ} 0 1 = cc in absurd (omega arith)
