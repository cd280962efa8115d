-- Three sectors written one after the other are the writes of a delete.
-- Assumes nothing.
use Rattle.std.specs.Prelude.{◌≡◌}
use Rattle.std.proofs.Common.{sym, ◌∙◌, arith}
use Rattle.std.proofs.Math.Path.{ap, ap₂}
use Prim.Native.Nat.{ℕ, ◌+◌, ◌-◌}
use mathlib.Core.List.{List, [], ◌∷◌}
use Rattle.std.proofs.Math.ListN.{set}
use Rattle.std.proofs.lemmas.List.Edits.{sets}
use Rattle.lists.specs.Lists.{byte, last_or}
use Rattle.format.specs.Geometry.{Geometry, Disc, sector, written}
use Rattle.format.proofs.GeometryLaws.{sector_other}
use Rattle.format.specs.Layout.{link_offset, in_use_offset, system, free_count, used_count, Slot, empty_slot, length_of, link_bytes, free_pointer, first_of, file_chain}
use Rattle.format.specs.Effects.{with_slot, system_write, delete_writes}
use Rattle.disc.specs.Meaning.{stored_at}
use Rattle.soundness.specs.WriteFacts.{Removable}
use Rattle.system.specs.Laws.{system_from}

module _ (G : Geometry) (d : Disc) (s : Slot) (r : Removable G d s) where
  pub three_writes : (d₁ d₂ d₃ : Disc)
      → d₁ ≡ set d s.home (with_slot (sector d s.home) s.index (byte (sector d s.home) in_use_offset - 1) empty_slot)
      → d₂ ≡ stored_at d₁ (last_or 0 (file_chain G d s)) link_offset (link_bytes G (free_pointer G d))
      → d₃ ≡ written (system_write G d₂ (first_of G s) (free_count d + length_of s) (used_count d - length_of s) ∷ []) d₂
      → d₃ ≡ written (delete_writes G d s) d
  unfolding delete_writes
  three_writes d₁ d₂ d₃ e₁ e₂ e₃ =
      let home : ℕ = s.home in
      let last : ℕ = last_or 0 (file_chain G d s) in
      let link : List ℕ = link_bytes G (free_pointer G d) in
      let last-stays : sector d₁ last ≡ sector d last =
      ap (λ (x : Disc). sector x last) e₁ ∙ sector_other d home last _ (λ e. r.home_last (sym e)) in
      let system_stays : system d₂ ≡ system d =
      ap system e₂
      ∙ sector_other d₁ last 0 _ (λ e. omega (arith, r.last_low))
      ∙ ap system e₁
      ∙ sector_other d home 0 _ (λ e. omega (arith, r.home_low)) in
      e₃
      ∙ system_from G d d₂ (first_of G s) _ _ system_stays
      ∙ ap (written (system_write G d (first_of G s) (free_count d + length_of s) (used_count d - length_of s) ∷ []))
      (e₂ ∙ ap₂ (λ (x : Disc) (y : List ℕ). set x last (sets y link_offset link)) e₁ last-stays)
