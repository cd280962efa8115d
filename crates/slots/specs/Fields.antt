-- The fields of an entry, by their offsets in its directory sector.
-- Assumes nothing.
use Rattle.std.specs.Prelude.{◌≡◌, ℕ, ◌+◌, ◌*◌, ◌<◌, drop}
use Rattle.std.proofs.Common.{sym, ap₂, ◌∙◌, arith}
use Rattle.std.proofs.Math.Path.{ap}
use Rattle.std.proofs.Math.Seq.{get_or-take, get_or-drop}
use Rattle.lists.specs.Lists.{byte, word_at}
use Rattle.format.specs.Geometry.{Geometry, pointed, Disc, sector}
use Rattle.format.specs.Layout.{slot_start, slot_at, pair_at}

-- slot i of sector n starts at offset a
module _ (d : Disc) (n i a : ℕ) (e : a ≡ slot_start i) where
  pub slot_byte : (j : ℕ) → j < 16 → byte (slot_at d n i).bytes j ≡ byte (sector d n) (a + j)
  unfolding slot_at
  slot_byte j h =
      get_or-take 16 (drop (slot_start i) (sector d n)) j 0 h
      ∙ get_or-drop (slot_start i) (sector d n) j 0
      ∙ ap (λ (k : ℕ). byte (sector d n) (k + j)) (sym e)

  module _ (j : ℕ) (h : j + 1 < 16) where
    next : byte (slot_at d n i).bytes (j + 1) ≡ byte (sector d n) (a + j + 1)
    next = slot_byte (j + 1) h ∙ ap (byte (sector d n)) (omega arith)

    pub slot_word : word_at (slot_at d n i).bytes j ≡ word_at (sector d n) (a + j)
    slot_word = ap₂ (λ (low high : ℕ). low + 256 * high) (slot_byte j (omega arith)) next

    pub slot_pair : (G : Geometry) → pair_at G (slot_at d n i).bytes j ≡ pair_at G (sector d n) (a + j)
    slot_pair G = ap₂ (pointed G) next (slot_byte j (omega arith))
