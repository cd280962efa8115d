-- `slots::put_slot` meets its contract: two stores in the one sector.
use Rattle.std.proofs.Common.{arith, ℕ, ap₂, ◌∙◌, List, [], ◌∷◌}
use lib.Seq.{sets}
use Rattle.format.specs.Geometry.{Disc, sector}
use Rattle.format.proofs.GeometryLaws.{sector_again}
use Rattle.format.specs.Layout.{in_use_offset, slot_start}
use Rattle.format.specs.Effects.{with_slot}
use Rattle.geometry.specs.Meaning.{sectors_of}
use Rattle.geometry.specs.Laws.{image_full}
use Rattle.disc.specs.Meaning.{stored_at}
use Rattle.slots.proofs.put_slot.Goals as goal

pub returns : goal.returns
unfolding with_slot
returns c =
    let a = c.args in
    let d : Disc = sectors_of a.g a.image.now in
    let n : ℕ = a.slot.sector.0 in
    let counted : List ℕ = sets (sector d n) in_use_offset (a.in_use ∷ []) in
    c.put-2.ensures
    ∙ ap₂ (λ (x : Disc) (k : ℕ). stored_at x n k a.bytes.now) c.put.ensures c.slot_start.ensures
    ∙ sector_again d n (slot_start a.slot.index) counted a.bytes.now (omega (arith, (image_full c.requires.0).many, c.requires.0.valid.total))
