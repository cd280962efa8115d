-- The stops of a track: the code's two tables are the orders of the kinds of disc, and the sector of a stop.
-- Assumes nothing.
use Rattle.std.specs.Prelude.{◌≡◌, refl, ◌≢◌, ℕ, ◌*◌, ◌%◌, ◌≤◌, cond, eqb}
use Rattle.std.proofs.Common.{arith, eq-eqb, ne_eqb}
use Rattle.format.specs.Geometry.{ten, ten_moved, nine, stated}
use Rattle.geometry.specs.Meaning.{geo, Valid}
use Rattle.geometry.specs.Laws.{kinds, of_kind}
use Rattle.geometry.specs.declared.Geometry.{Geometry}
use Rattle.passing.specs.Meaning.{Stop}

formed_order : (s a : ℕ) → 9 ≤ s → s ≤ 10 → a ≤ 1 → 10 * a ≤ s → (stated s a).order ≡ cond (eqb s 9) nine.order ten.order
unfolding stated ten ten_moved nine
formed_order = kinds (λ s a. (stated s a).order ≡ cond (eqb s 9) nine.order ten.order) refl refl refl

module _ {g : Geometry} (v : Valid g) where
  -- the two tables of the code
  pub order_of_nine : g.per_track ≡ 9 → (geo g).order ≡ nine.order
  order_of_nine e = rw (eq-eqb g.per_track 9 e) at (of_kind v formed_order)

  pub order_of_ten : g.per_track ≢ 9 → (geo g).order ≡ ten.order
  order_of_ten e = rw (ne_eqb g.per_track 9 e) at (of_kind v formed_order)

-- the sector of a stop
pub stop_sector : {g : Geometry} → Valid g → (s r : ℕ) → Stop g s r → r % 256 ≡ s
stop_sector v s r h = omega (arith, h.at, h.on_track.1, v.few_on_track)
