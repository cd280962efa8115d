-- A list of writes copied out of the disc after them: where no sector is written twice, each stands there as it was written.
-- Assumes nothing.
use Rattle.std.specs.Prelude.{◌≡◌, ℕ, ◌*◌, ◌≤◌, ◌<◌, length, set}
use Rattle.std.proofs.Math.Path.{refl, ap}
use Rattle.std.proofs.Common.{ap₂, ◌∙◌, arith, length-set}
use Rattle.std.proofs.Math.Decide.{ℕ_discrete}
use mathlib.Core.List.{List, [], ◌∷◌, map, ◌++◌, append_assoc}
use Rattle.std.proofs.Math.ListN.{length-append}
use Rattle.lists.specs.Lists.{times}
use Rattle.lists.specs.ListLaws.{All, done, ◌also◌, all_map, times_here, times_past}
use Rattle.format.specs.Geometry.{Geometry, sectors, track_of, sector_of, Disc, sector, Write, written}
use Rattle.format.specs.GeometryLaws.{Full}
use Rattle.format.proofs.GeometryLaws.{sector_same, written_other, sector_full}
use Rattle.format.specs.Writes.{record_of, write_list}
use Rattle.format.specs.WriteLaws.{WholeOn}
use Rattle.soundness.specs.ListedWrites.{targets}

-- a sector as it stands
abbrev pub standing : Disc → ℕ → Write
standing d n = record { at = n; bytes = sector d n }

-- the records of these sectors as they stand
unfoldable pub records_at : Geometry → Disc → List ℕ → List ℕ
records_at G d [] = []
records_at G d (n ∷ ns) = record_of G (standing d n) ++ records_at G d ns

-- the list of these sectors as they stand
abbrev pub copied : Geometry → Disc → List ℕ → List ℕ
copied G d ns = records_at G d ns ++ 0 ∷ []

-- ---- parts of the list

module _ (G : Geometry) (d : Disc) where
  pub records_join : (xs ys : List ℕ) → records_at G d (xs ++ ys) ≡ records_at G d xs ++ records_at G d ys
  unfolding records_at
  records_join [] ys = refl
  records_join (x ∷ xs) ys =
      ap (λ (r : List ℕ). record_of G (standing d x) ++ r) (records_join xs ys) ∙ rw append_assoc

  pub copied_join : (xs ys : List ℕ) → copied G d (xs ++ ys) ≡ records_at G d xs ++ copied G d ys
  copied_join xs ys = ap (λ (r : List ℕ). r ++ 0 ∷ []) (records_join xs ys) ∙ append_assoc (records_at G d xs) (records_at G d ys) (0 ∷ [])

  pub records_long : Full G d → {ns : List ℕ} → All (λ n. n < sectors G) ns → length (records_at G d ns) ≡ 259 * length ns
  unfolding records_at record_of
  records_long z done = refl
  records_long z (◌also◌ {x = n} {xs = ns} h hs) = omega (arith, length-append (sector d n) (records_at G d ns), sector_full z n h, records_long z hs)

-- ---- writes of distinct sectors

-- each sector stands as it was written
pub still : {N : ℕ} {ws : List Write} → All (λ w. w.at < N) ws → (d : Disc) → length d ≡ N → ((n : ℕ) → times n (targets ws) ≤ 1)
    → All (λ w. sector (written ws d) w.at ≡ w.bytes) ws
still done d e once = done
still (◌also◌ {x = w} {xs = ws} h hs) d e once =
    let d₁ : Disc = set d w.at w.bytes in
    (written_other ws d₁ w.at (omega (arith, once w.at, times_here w.at w.at (targets ws) refl))
    ∙ sector_same d w.at w.bytes (omega arith))
    also still hs d₁ (length-set d w.at w.bytes ∙ e) (λ n. elim (ℕ_discrete n w.at) [
      | yes q ↦ omega (arith, once n, times_here n w.at (targets ws) q)
      | no q ↦ omega (arith, once n, times_past n w.at (targets ws) q)
    ])

copy : (G : Geometry) (d : Disc) {ws : List Write} → All (λ w. sector d w.at ≡ w.bytes) ws → copied G d (targets ws) ≡ write_list G ws
unfolding records_at write_list record_of
copy G d done = refl
copy G d (◌also◌ {x = w} {xs = ws} h hs) =
    append_assoc (record_of G (standing d w.at)) (records_at G d (targets ws)) (0 ∷ [])
    ∙ ap₂ (λ (b r : List ℕ). (3 ∷ track_of G w.at ∷ sector_of G w.at ∷ b) ++ r) h (copy G d hs)

pub copied_out : (G : Geometry) (d : Disc) → Full G d → (ws : List Write) → All (WholeOn G) ws → ((n : ℕ) → times n (map (λ w. w.at) ws) ≤ 1)
    → copied G (written ws d) (map (λ w. w.at) ws) ≡ write_list G ws
copied_out G d z ws whole once = copy G (written ws d) (still (all_map (λ w h. h.0) whole) d z.many once)
