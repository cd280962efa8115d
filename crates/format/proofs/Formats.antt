-- The kinds of disc: what the facts about discs ask of a kind, that those which a caller can state have it, and what else may be stated.
-- "prove the facts once for both": outside this file no law asks how many sectors a track has.
-- Assumes nothing.
use Rattle.std.specs.Prelude.{◌≡◌, refl, ◌≢◌, ℕ, suc, ◌*◌, ◌/◌, ◌≤◌, ◌<◌, Bool, true, false, ◌&&◌, cond, List, ◌∷◌, ◌++◌, length, get_or, drop, eqb}
use Rattle.std.proofs.Common.{sym, ap, subst, ◌∙◌, arith, mul_assoc, take-append-drop, ne_eqb}
use Rattle.std.proofs.Math.Nat.{mul-div_cancel_left, div-add-mod}
use Rattle.std.proofs.Math.Bool.{and-false}
use Rattle.lists.specs.Lists.{Once}
use Rattle.lists.specs.ListLaws.{All, head_of_all, tail_of, all_get_d, once_length, once_inside}
use Rattle.lists.specs.Counts.{in_order_once, permutes_once}
use Rattle.format.specs.Refusals.{ok}
use Rattle.format.proofs.RefusalLaws.{refused_ok}
use Rattle.format.specs.Geometry.{Format, ten, ten_moved, nine, unknown, stated, Geometry, tracked, geometry}
use Rattle.format.specs.Arrangements.{Arranged}
use Rattle.format.specs.GeometryLaws.{ImageOf}
use Rattle.format.proofs.GeometryLaws.{no_disc, geometry_ok, geometry_done}
use Rattle.format.specs.Formats.{GoodFormat}

pub ten_good : GoodFormat ten
unfolding ten
ten_good =
    record { few = omega arith; each_once = in_order_once 10; passes_once = permutes_once 10 _ refl; taken_first = refl }

pub moved_good : GoodFormat ten_moved
unfolding ten_moved ten
moved_good =
    record { few = omega arith; each_once = permutes_once 10 _ refl; passes_once = permutes_once 10 _ refl; taken_first = refl }

pub nine_good : GoodFormat nine
unfolding nine
nine_good =
    record { few = omega arith; each_once = in_order_once 9; passes_once = permutes_once 9 _ refl; taken_first = refl }

-- the order of a blank disc's chain
module _ {F : Format} (f : GoodFormat F) where
  pub order_begins : F.order ≡ 1 ∷ 4 ∷ drop 2 F.order
  order_begins = sym (take-append-drop 2 F.order) ∙ ap (λ (xs : List ℕ). xs ++ drop 2 F.order) f.taken_first

  -- 0/4 is on the disc
  pub four : 4 ≤ F.per_track
  four = (head_of_all (tail_of (subst (All (λ n. (1 ≤ n) × (n ≤ F.per_track))) order_begins (once_inside f.passes_once)))).1

  pub order_long : length F.order ≡ F.per_track
  order_long = once_length F.per_track F.order f.passes_once

  -- every sector of the order is one of the track's
  pub order_range : (j : ℕ) → j < F.per_track → (1 ≤ get_or F.order j 0) × (get_or F.order j 0 ≤ F.per_track)
  order_range j h = all_get_d {P = λ s. (1 ≤ s) × (s ≤ F.per_track)} j 0 (once_inside f.passes_once) (omega (arith, order_long))

-- "256 times that times 1 to 80 tracks": these lengths are right, and no others (`geometry_ok`)
pub right_length : {F : Format} → GoodFormat F → (T : ℕ) → 1 ≤ T → T ≤ 80 → geometry F (256 * (F.per_track * T)) ≡ ok (tracked F T)
right_length {F} f T low high =
    let track : ℕ = 256 * F.per_track in
    let n : ℕ = 256 * (F.per_track * T) in
    let some : 0 < track = omega (arith, four f) in
    let all : n ≡ track * T = sym (mul_assoc 256 F.per_track T) in
    let tracks : n / track ≡ T = ap (λ (m : ℕ). m / track) all ∙ mul-div_cancel_left T some in
    let whole : track * (n / track) ≡ track * T = ap (λ (t : ℕ). track * t) tracks in
    geometry_done F n (omega (arith, div-add-mod n track)) (omega (arith, tracks)) (omega (arith, tracks)) ∙ ap (λ (t : ℕ). ok (tracked F t)) tracks

-- ---- what may not be stated

pub other_arrangement : (k a : ℕ) → 1 < a → stated k a ≡ unknown
unfolding stated
other_arrangement k a h = simp (ne_eqb a 0 (λ e. omega arith), ne_eqb a 1 (λ e. omega arith), and-false)

pub other_sectors : (k a : ℕ) → k ≢ 9 → k ≢ 10 → stated k a ≡ unknown
unfolding stated
other_sectors k a h i = simp (ne_eqb k 9 h, ne_eqb k 10 i)

pub nine_moved : stated 9 1 ≡ unknown
unfolding stated
nine_moved = refl

-- ---- what may be stated

-- what holds of every good kind, and of a kind that there isn't, holds of whatever a caller states
pub stated_cases : (P : Format → Type 0) → ((F : Format) → GoodFormat F → P F) → P unknown → (k a : ℕ) → P (stated k a)
unfolding stated
stated_cases P good none k a = by (eqb k 10 && eqb a 0) (eqb k 10 && eqb a 1) (eqb k 9 && eqb a 0)
  where
    by : (x y z : Bool) → P (cond x ten (cond y ten_moved (cond z nine unknown)))
    by true y z = good ten ten_good
    by false true z = good ten_moved moved_good
    by false false true = good nine nine_good
    by false false false = none

-- ---- an image of what a caller states

pub good_arranged : {F : Format} {G : Geometry} {n : ℕ} → GoodFormat F → ImageOf F G n → Arranged F G
good_arranged {F} f i = subst (λ (k : ℕ). Once (suc k) F.arrangement) (sym i.per_track) f.each_once

pub stated_arranged : (k a n : ℕ) (G : Geometry) → geometry (stated k a) n ≡ ok G → Arranged (stated k a) G
stated_arranged =
    stated_cases (λ F. (n : ℕ) (G : Geometry) → geometry F n ≡ ok G → Arranged F G)
    (λ F f n G g. good_arranged f (geometry_ok F n G g)) (λ n G g. absurd (refused_ok (sym (no_disc n) ∙ g)))
