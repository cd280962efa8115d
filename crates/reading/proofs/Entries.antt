-- Laws of an entry's first link and of a header's tests. The code takes the links by their variants now; the laws stand, though no proof cites them.
-- Assumes nothing.
use Rattle.std.specs.Prelude.{◌≡◌, ◌⊎◌, true, ◌&&◌, drop, eqb}
use Rattle.std.proofs.Math.Path.{ap}
use Rattle.std.proofs.Common.{arith}
use Prim.Native.Nat.{ℕ, ◌≤◌}
use mathlib.Core.List.{List}
use Rattle.std.proofs.Math.ListN.{length}
use Rattle.lists.specs.ListLaws.{and_true}
use Rattle.format.specs.Geometry as format
use Rattle.format.specs.Layout.{Slot, length_of, met, first_of, file_chain}
use Rattle.format.specs.Modules.{sectors_for}
use Rattle.format.specs.RuleLaws.{GoodChain}
use Rattle.geometry.specs.Meaning.{geo, sectors_of, Image}
use Rattle.geometry.specs.declared.Geometry.{Geometry}
use Rattle.geometry.specs.declared.SectorNo.{SectorNo}
use Rattle.disc.specs.Meaning.{meaning}
use Rattle.disc.specs.declared.Link.{Link}
use Rattle.link_laws.specs.Links.{case_of, met_ended}
use Rattle.reading.specs.Plain.{filled, size_of, numbered, headed}

-- ---- the file of an entry on a sound disc

module _ {g : Geometry} {image : List ℕ} {s : Slot} (i : Image g image) (file : GoodChain (geo g) (sectors_of g image) s) (some_sector : 1 ≤ length_of s) where
  pub entry_leads : (l : Link SectorNo) → meaning l ≡ first_of (geo g) s → (case_of l ≡ 0) ⊎ (case_of l ≡ 2) → ⊥
  unfolding file_chain
  entry_leads l e h =
      let N : ℕ = format.sectors (geo g) in
      let none : length (met (geo g) (sectors_of g image) N (meaning l)) ≡ 0 = ap length (met_ended (geo g) (sectors_of g image) N l h) in
      omega (arith, rw e at none, file.as_long)

-- ---- the tests of a header

pub headed_numbered : (b : List ℕ) (count : ℕ) → headed b count ≡ true → numbered b ≡ true
unfolding headed
headed_numbered b count e =
    let t = eqb (sectors_for (size_of b)) count in
    (and_true (numbered b) t (and_true (numbered b && t) (filled (size_of b) (drop 8 b)) e).0).0
