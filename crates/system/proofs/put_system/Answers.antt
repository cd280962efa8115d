-- `system::put_system` meets its contract: two stores in the one sector.
use Rattle.std.proofs.Common.{arith, ℕ, ap, ap₂, ◌∙◌, List, [], ◌∷◌, ◌++◌, set}
use lib.Seq.{sets}
use Rattle.lists.specs.Lists.{word}
use Rattle.format.specs.Geometry.{Disc, sector}
use Rattle.format.proofs.GeometryLaws.{length_cut, sector_again}
use Rattle.format.specs.Layout.{free_offset, free_count_offset}
use Rattle.format.specs.Effects.{system_write}
use Rattle.geometry.specs.Meaning.{geo, sectors_of, form}
use Rattle.disc.specs.Meaning.{stored_at}
use Rattle.system.proofs.put_system.Goals as goal

pub returns : goal.returns
unfolding system_write
returns c =
    let a = c.args in
    let d : Disc = sectors_of a.g a.image.now in
    let counts : List ℕ = word a.free ++ word a.used in
    let address = c.address_of-address.ensures in
    let stored = rw (c.word_bytes-free_bytes.ensures, c.word_bytes-used_bytes.ensures) at c.put-2.ensures in
    stored
    ∙ ap (λ (x : Disc). stored_at x 0 free_count_offset counts) c.put.ensures
    ∙ sector_again d 0 free_count_offset _ counts (omega (arith, length_cut (form a.g) (geo a.g) a.image.now, c.requires.0.valid.total))
    ∙ ap₂ (λ (s t : ℕ). set d 0 (sets (sets (sector d 0) free_offset (s ∷ t ∷ [])) free_count_offset counts)) address.1 address.0
