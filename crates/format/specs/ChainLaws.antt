-- What the laws of proofs/ChainLaws.antt speak of.
-- Assumes nothing.
use Rattle.std.specs.Prelude.{◌≡◌}
use Prim.Native.Nat.{ℕ}
use mathlib.Core.List.{List, [], ◌∷◌}
use Rattle.format.specs.Geometry.{Geometry, Next, stop, go, Disc, sector}
use Rattle.format.specs.Layout.{link_of}

-- p leads through ns, and the last of ns has the end link
pub data Chain (G : Geometry) (d : Disc) : Next → List ℕ → Type 0 where
  end : {p : Next} → p ≡ stop → Chain G d p []
  on : {p : Next} {n : ℕ} {ns : List ℕ} → p ≡ go n → Chain G d (link_of G (sector d n)) ns → Chain G d p (n ∷ ns)

abbrev pub SameLink : Geometry → Disc → Disc → ℕ → Type 0
SameLink G d d' n = link_of G (sector d' n) ≡ link_of G (sector d n)
